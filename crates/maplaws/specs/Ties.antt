-- The tie-break of a reset: what becomes of waiting removals whose clocks are cut to the same clock.
use Rattle.std.specs.Prelude.{◌≡◌, false, List, [], ◌∷◌, ℕ}
use Rattle.listlaws.specs.Fold.{fold}
use Rattle.listlaws.specs.Sift.{sift}
use Rattle.listlaws.specs.Weave.{weave}
use Rattle.listlaws.specs.Order.{◌∈◌}
use Rattle.clock.specs.declared.Dot.{Dot}
use Rattle.clock.specs.Dots.{is_empty, cut_dots}
use Rattle.removals.specs.declared.Removal.{Removal}
use Rattle.removals.specs.Model.{under_of, listed_in}
use Rattle.removals.specs.Waits.{removal_before, cut_removal, remains}
use Rattle.maplaws.specs.Among.{OneOf, UnderClock, Lists, Exactly}

-- the removals that wait before a reset by c, and after it
pub record TieBreak (c : List Dot) (before after : List Removal) : Type 0 where
  -- a key is listed under a waiting clock exactly when one of the removals whose cut clock is that one listed it
  pub listed : (clock : List Dot) → is_empty clock ≡ false → (key : ℕ)
      → Exactly (OneOf after (Lists clock key)) (OneOf before (λ r. (cut_dots c (under_of r) ≡ clock) × (key ∈ listed_in r)))
  -- a clock waits exactly when one of the removals was cut to it, also where none listed a key
  pub waits : (clock : List Dot) → is_empty clock ≡ false
      → Exactly (OneOf after (UnderClock clock)) (OneOf before (λ r. cut_dots c (under_of r) ≡ clock))
  -- "drop waiting removals whose clocks are emptied"
  pub emptied : (r : Removal) → r ∈ after → is_empty (under_of r) ≡ false
  -- "united": one removal for each clock
  pub one : (r s : Removal) → r ∈ after → s ∈ after → under_of r ≡ under_of s → r ≡ s

-- a tie-break that lets a withdrawn image come back: of two whose clocks became equal, the later one's keys replace the earlier one's
unfoldable pub later_kept : List Dot → List Removal → List Removal
later_kept c l = fold (λ w r. weave removal_before (λ x. x) (λ x. x) (λ x y. y) w (r ∷ [])) [] (sift remains (cut_removal c) l)
