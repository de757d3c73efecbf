-- Where the later one's keys replace the earlier one's, a key is lost: on W8's removals the tie-break does not hold.
use mathlib.Core.Path.{◌≡◌, refl}
use mathlib.Core.List.Memᴰ
use mathlib.Core.List.{List, [], ◌∷◌}
use Prim.Native.Nat.{ℕ}
use native.Mathlib.Omega.{arith}
use Rattle.listlaws.specs.Pad.{pad}
use Rattle.listlaws.specs.Sift.{sift}
use Rattle.listlaws.specs.First.{first_in}
use Rattle.listlaws.specs.Fold.{fold}
use Rattle.listlaws.specs.Weave.{weave}
use Rattle.listlaws.specs.Order.{◌∈◌}
use Rattle.clock.specs.Dots.{is_empty, counter_in, cut_dots}
use Rattle.removals.specs.declared.Removal.{Removal}
use Rattle.removals.specs.Model.{removal_as, listed_in}
use Rattle.removals.specs.Waits.{clock_before}
use Rattle.maplaws.specs.Ties.{TieBreak, later_kept}
use Rattle.maplaws.proofs.Examples.{dot, one}

-- {1:4,2:1} with 6, then {1:5,2:1} with 5: cut by {1:5}, both are {2:1}
abbrev waiting : List Removal
waiting = removal_as (dot 1 4 ∷ dot 2 1 ∷ []) (6 ∷ []) ∷ removal_as (dot 1 5 ∷ dot 2 1 ∷ []) (5 ∷ []) ∷ []

later-alone : later_kept (one 1 5) waiting ≡ removal_as (one 2 1) (5 ∷ []) ∷ []
unfolding pad sift first_in fold weave is_empty counter_in cut_dots clock_before later_kept
later-alone = refl

not_listed : (r : Removal) → r ∈ (removal_as (one 2 1) (5 ∷ []) ∷ []) → 6 ∈ listed_in r → ⊥
unfolding pad
not_listed r i j =
    let same : r ≡ removal_as (one 2 1) (5 ∷ []) = Memᴰ.eq_of_singleton i in
    let z : ◌≡◌ {A = ℕ} 6 5 = Memᴰ.eq_of_singleton (rw same at j) in
    omega arith

-- an end theorem: 6 was listed, and is not listed after
pub key-lost : TieBreak (one 1 5) waiting (later_kept (one 1 5) waiting) → ⊥
unfolding pad sift first_in is_empty counter_in cut_dots
key-lost t =
    let q = (t.listed (one 2 1) refl 6).1 (removal_as (dot 1 4 ∷ dot 2 1 ∷ []) (6 ∷ []), Memᴰ.head refl, (refl, Memᴰ.head refl)) in
    not_listed q.0 (rw later-alone at q.1) q.2.1
