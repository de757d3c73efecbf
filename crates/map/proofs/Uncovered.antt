-- A reset can leave a waiting removal that the map clock covers: an example, which nothing uses.
use mathlib.Core.Path.{◌≡◌, refl}
use mathlib.Core.Bool.{true}
use mathlib.Core.Logic.{⊎_elim}
use mathlib.Core.List.Memᴰ
use mathlib.Core.List.{[], ◌∷◌}
use native.Mathlib.Omega.{arith}
use Prim.Native.Nat.{◌<◌}
use Rattle.listlaws.specs.Pad.{pad}
use Rattle.listlaws.specs.Sift.{sift}
use Rattle.listlaws.specs.First.{first_in}
use Rattle.listlaws.specs.Fold.{fold}
use Rattle.listlaws.specs.Weave.{weave}
use Rattle.listlaws.specs.Order.{◌∈◌, Ascending, nil, next, by}
use Rattle.listlaws.proofs.Sides.{one-ascends}
use Rattle.clock.specs.declared.Dot.{Dot}
use Rattle.clock.specs.Dots.{is_empty, counter_in, covers, order_of, cut_dots}
use Rattle.clock.proofs.Joins.{lawful-one}
use Rattle.clock.proofs.Examples.{dot}
use Rattle.removals.specs.Model.{removal_as}
use Rattle.removals.specs.Waits.{waits, clock_before, union_keys, unite_all, reset_waiting}
use Rattle.removals.proofs.WaitingValid.{valid-one}
use Rattle.map.specs.declared.Map.{Map}
use Rattle.map.specs.Model.{map_as}
use Rattle.map.specs.Resetting.{reset}
use Rattle.map.specs.Valid.{Valid}
use Rattle.map.proofs.Kept.{valid-as}

-- {1:5, 2:1} waits at {2:1}; reset by {1:5}, what is left of it is covered
abbrev resting : Map
resting = map_as (dot 2 1 ∷ []) [] (removal_as (dot 1 5 ∷ dot 2 1 ∷ []) (5 ∷ []) ∷ [])

resting-valid : Valid resting
unfolding pad is_empty
resting-valid =
    valid-as (lawful-one (dot 2 1) (omega arith)) (record { rising = nil; each = λ e i. absurd (Memᴰ.not-nil i) })
    (valid-one (record { laid = refl; clock = record { rising = rising; positive = positive }; keys = one-ascends 5 }) refl)
  where
    rising : Ascending (by (λ d. d.actor)) (dot 1 5 ∷ dot 2 1 ∷ [])
    rising = next {x = dot 1 5} (λ y i. let same : y ≡ dot 2 1 = Memᴰ.eq_of_singleton i in rw same refl) (one-ascends (dot 2 1))

    positive : (d : Dot) → d ∈ (dot 1 5 ∷ dot 2 1 ∷ []) → 0 < d.counter
    positive d i =
        ⊎_elim (λ (e : d ≡ dot 1 5). rw e (omega arith)) (λ j. let same : d ≡ dot 2 1 = Memᴰ.eq_of_singleton j in rw same (omega arith))
        (Memᴰ.cases_cons i)

pub record ResetCovers : Type 0 where
  pub valid : Valid resting
  pub before : waits (dot 2 1 ∷ []) (removal_as (dot 1 5 ∷ dot 2 1 ∷ []) (5 ∷ [])) ≡ true
  pub after : reset resting (dot 1 5 ∷ []) ≡ map_as (dot 2 1 ∷ []) [] (removal_as (dot 2 1 ∷ []) (5 ∷ []) ∷ [])
  pub covered : covers (dot 2 1 ∷ []) (dot 2 1 ∷ []) ≡ true

pub reset-covers : ResetCovers
unfolding pad sift first_in fold weave is_empty counter_in covers order_of cut_dots waits clock_before union_keys unite_all reset_waiting reset
reset-covers = record { valid = resting-valid; before = refl; after = refl; covered = refl }
