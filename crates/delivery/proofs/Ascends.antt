-- A loop that tests waiting clocks, each against the one before it, where they stand in a reader's memory.
use mathlib.Core.Path.{◌≡◌, ap, sym, ◌∙◌}
use mathlib.Core.Bool.{true, false}
use mathlib.Core.List.{List, ◌∷◌}
use Prim.Native.Nat.{ℕ, ◌+◌, ◌-◌, ◌≤◌, ◌<◌}
use native.Mathlib.Omega.{arith}
use lib.Dec.{ltb}
use lib.ListN.{drop}
use borrow.Author.Tests.{ltb-true, ltb-false}
use Rattle.scan.proofs.Eachs.{decide}
use Rattle.removals.specs.Waits.{removal_before}
use Rattle.maprecords.specs.Related.{ascend}
use Rattle.memory.specs.Memory.{removal_at, waiting_count_at, waiting_at}
use Rattle.delivery.proofs.Views.{waiting-left, waiting-end}

-- the pairs before place k have passed
module _ (w : List ℕ) (k : ℕ) (one : 1 ≤ k) (e : ascend (waiting_at w) ≡ ascend (drop (k - 1) (waiting_at w))) where
  at_last : k - 1 + 1 ≡ k
  at_last = omega arith

  last : k - 1 < waiting_count_at w → drop (k - 1) (waiting_at w) ≡ removal_at w (k - 1) ∷ drop k (waiting_at w)
  last h = waiting-left w (k - 1) h ∙ ap (λ j. removal_at w (k - 1) ∷ drop j (waiting_at w)) at_last

  module _ (h : k < waiting_count_at w) where
    pub ascend-on : removal_before (removal_at w (k - 1)) (removal_at w k) ≡ true → ascend (waiting_at w) ≡ ascend (drop (k + 1 - 1) (waiting_at w))
    unfolding ascend
    ascend-on t = let j : k + 1 - 1 ≡ k = omega arith in e ∙ rw (last (omega arith), j, waiting-left w k h, t)

    pub ascend-fails : removal_before (removal_at w (k - 1)) (removal_at w k) ≡ false → false ≡ ascend (waiting_at w)
    unfolding ascend
    ascend-fails f = sym (e ∙ rw (last (omega arith), waiting-left w k h, f))

  pub ascend-end : waiting_count_at w ≤ k → true ≡ ascend (waiting_at w)
  unfolding ascend
  ascend-end h =
      sym (e ∙ decide (ltb (k - 1) (waiting_count_at w))
      (λ t. rw (last (ltb-true _ _ t), waiting-end w k h))
      (λ f. rw (waiting-end w (k - 1) (ltb-false _ _ f))))
