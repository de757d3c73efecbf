-- 01 "Map", removals: the keys that one lists, which of them wait, their order, uniting them, and what a reset leaves of them.
use Rattle.std.specs.Prelude.{Bool, true, false, not, ◌&&◌, ◌||◌, List, [], ◌∷◌, ℕ, ltb, eqb}
use Rattle.listlaws.specs.First.{some}
use Rattle.listlaws.specs.Sift.{sift}
use Rattle.listlaws.specs.Fold.{fold}
use Rattle.listlaws.specs.Weave.{weave}
use Rattle.listlaws.specs.Order.{by}
use Rattle.clock.specs.declared.Dot.{Dot}
use Rattle.clock.specs.declared.Order.{Order}
use Rattle.clock.specs.declared.Order.TheVariants.{Equal, Greater, Less, Concurrent}
use Rattle.clock.specs.Dots.{clock_of, is_empty, order_of, cut_dots}
use Rattle.removals.specs.declared.Removal.{Removal}
use Rattle.removals.specs.Model.{keys_as, under_of, listed_in}

-- a key is among those that a removal lists
unfoldable pub listed : List ℕ → ℕ → Bool
listed keys k = some (λ h. eqb h k) keys

-- "If the map clock is less than C or concurrent"
abbrev pub lacking : Order → Bool
lacking Less = true
lacking Concurrent = true
lacking Equal = false
lacking Greater = false

unfoldable pub waits : List Dot → Removal → Bool
waits seen r = lacking (order_of seen (under_of r))

-- "dots by actor, compared pair by pair (actor, then counter), a prefix first"
unfoldable pub clock_before : List Dot → List Dot → Bool
clock_before l [] = false
clock_before [] (y ∷ m) = true
clock_before (x ∷ l) (y ∷ m) =
    ltb x.actor y.actor || (eqb x.actor y.actor
    && (ltb x.counter y.counter || (eqb x.counter y.counter && clock_before l m)))

abbrev pub removal_before : Removal → Removal → Bool
removal_before x y = clock_before (under_of x) (under_of y)

unfoldable pub union_keys : List ℕ → List ℕ → List ℕ
union_keys k h = weave (by (λ x. x)) (λ x. x) (λ x. x) (λ x y. x) k h

abbrev pub unite : Removal → Removal → Removal
unite x y = record { clock = x.clock; keys = keys_as (union_keys (listed_in x) (listed_in y)) }

-- two lists of waiting removals as one: those with equal clocks are united
unfoldable pub unite_all : List Removal → List Removal → List Removal
unite_all l m = weave removal_before (λ w. w) (λ w. w) unite l m

-- "the keys are united into the waiting removal with clock C, also when K is empty"
abbrev pub unite_into : List Removal → Removal → List Removal
unite_into l r = unite_all l (r ∷ [])

abbrev pub cut_removal : List Dot → Removal → Removal
cut_removal c r = record { clock = clock_of (cut_dots c (under_of r)); keys = r.keys }

abbrev pub remains : Removal → Bool
remains r = not (is_empty (under_of r))

-- "cut waiting clocks; drop waiting removals whose clocks are emptied. Waiting removals with equal clocks afterwards are united"
unfoldable pub reset_waiting : List Dot → List Removal → List Removal
reset_waiting c l = fold unite_into [] (sift remains (cut_removal c) l)
