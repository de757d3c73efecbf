-- The walk over the peers, as its loop meets it: where it starts, one peer more, and which peers it reads.
use mathlib.Core.Path.{◌≡◌, refl}
use mathlib.Core.List.{List, [], ◌∷◌}
use Prim.Native.Nat.{ℕ, zero, suc, ◌+◌, ◌≤◌, ◌<◌}
use native.Mathlib.Numerals.{add-one}
use native.Mathlib.Omega.{arith}
use lib.Dec.{ltb}
use lib.ListN.{length, take, get_or}
use Rattle.listlaws.specs.Fold.{fold}
use Rattle.scan.proofs.Eachs.{decide}
use Rattle.clock.specs.declared.Clock.{Clock}
use Rattle.flooring.specs.Floor.{peer_limit}
use Rattle.flooring.specs.Steps.{peers_read, begun_of, next_of, floored_to}

fold_next : {A S : Type 0} (step : S → A → S) (s : S) (l : List A) (i : ℕ) (d : A) → i < length l
    → step (fold step s (take i l)) (get_or l i d) ≡ fold step s (take (suc i) l)
unfolding fold
fold_next step s [] i d h = absurd (omega arith)
fold_next step s (x ∷ l) zero d h = refl
fold_next step s (x ∷ l) (suc i) d h = fold_next step (step s x) l i d (omega arith)

module _ (peers : List Clock) where
  pub floor-start : begun_of (length peers) ≡ floored_to peers 0
  unfolding fold
  floor-start = refl

  pub floor-many : (floored_to peers 0).many ≡ peers_read (length peers)
  unfolding fold begun_of
  floor-many = refl

  pub floor-next : (i : ℕ) (d : Clock) → i < length peers → next_of (floored_to peers i) (get_or peers i d) ≡ floored_to peers (i + 1)
  floor-next i d h = rw (add-one i) (fold_next next_of (begun_of (length peers)) peers i d h)

pub read-within : (count : ℕ) → peers_read count ≤ count
read-within count = decide (ltb peer_limit count) (λ t. rw t (omega arith)) (λ f. rw f (omega arith))
