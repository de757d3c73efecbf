-- The guard that is asked before an update is applied: whether it is next, was seen, must be held, or was not made by castribba_update.
use Rattle.std.specs.Prelude.{Bool, cond, List, ℕ, ◌+◌, ◌-◌, ltb, leb, eqb}
use Rattle.listlaws.specs.First.{first_in}
use Rattle.clock.specs.declared.Dot.{Dot}
use Rattle.clock.specs.Dots.{dots_of, counter_in}
use Rattle.entries.specs.declared.Update.{Update}
use Rattle.map.specs.declared.Map.{Map}
use Rattle.map.specs.declared.Op.{Op}
use Rattle.map.specs.Model.{seen_by}
use Rattle.readiness.specs.declared.Readiness.{Readiness}
use Rattle.readiness.specs.declared.Readiness.TheVariants.{Next, Foreign, Seen, Hold}

-- an update's put clock: "what its writer had seen, own dot included"
abbrev pub put_of : Update → List Dot
put_of u = dots_of u.put.clock

-- of an update's own dot a:n and a dot b of its put clock P: "needed is n-1 for a itself and P[b] for any other b"
abbrev pub needed : Dot → Dot → ℕ
needed own d = cond (eqb d.actor own.actor) (own.counter - 1) d.counter

-- "needed above M[b]"
abbrev pub lacks : List Dot → Dot → Dot → Bool
lacks seen own d = ltb (counter_in seen d.actor) (needed own d)

-- "Over the actors of P ascending, the first with needed above M[b]: hold, carrying that actor and M[b]+1, the first missing counter."
unfoldable pub first_lacking : List Dot → Dot → List Dot → Readiness
first_lacking seen own put = first_in (lacks seen own) (λ d. Hold d.actor (counter_in seen d.actor + 1)) Next put

-- "An update of dot a:n with put clock P on a map clock M, in this order: P[a] is not n: not made by castribba_update; n is at most M[a]: seen";
-- then hold, "otherwise next"
unfoldable pub ready_under : List Dot → Update → Readiness
ready_under seen u =
    cond (eqb (counter_in (put_of u) u.dot.actor) u.dot.counter)
    (cond (leb u.dot.counter (counter_in seen u.dot.actor)) Seen (first_lacking seen u.dot (put_of u)))
    Foreign

-- "A removal: 0."
abbrev pub ready_at : List Dot → Op → Readiness
ready_at seen op = cond op.up (ready_under seen op.update) Next

unfoldable pub ready : Map → Op → Readiness
ready m op = ready_at (seen_by m) op

-- the number of each answer, and the numbers that 21 carries
abbrev pub ready_number : Readiness → ℕ
ready_number Next = 0
ready_number Foreign = 19
ready_number Seen = 20
ready_number (Hold actor counter) = 21

abbrev pub ready_actor : Readiness → ℕ
ready_actor Next = 0
ready_actor Foreign = 0
ready_actor Seen = 0
ready_actor (Hold actor counter) = actor

abbrev pub ready_counter : Readiness → ℕ
ready_counter Next = 0
ready_counter Foreign = 0
ready_counter Seen = 0
ready_counter (Hold actor counter) = counter
