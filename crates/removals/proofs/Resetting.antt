-- What a reset has left of the waiting removals, cut and united one after the other.
use mathlib.Core.Path.{◌≡◌, refl, ap, sym, ◌∙◌}
use mathlib.Core.Bool.{Bool, true, false}
use mathlib.Core.List.Memᴰ
use mathlib.Core.List.{List, []}
use Prim.Native.Nat.{ℕ, ◌+◌, ◌≤◌, ◌<◌}
use native.Mathlib.Omega.{arith}
use lib.ListN.{length, drop, get_or}
use Rattle.listlaws.specs.First.{some}
use Rattle.listlaws.specs.Fold.{fold}
use Rattle.listlaws.specs.Order.{◌∈◌}
use Rattle.listlaws.specs.Sift.{sift}
use Rattle.listlaws.proofs.SliceRests.{sift-yes, sift-no}
use Rattle.clock.specs.declared.Dot.{Dot}
use Rattle.clock.specs.Dots.{is_empty}
use Rattle.removals.specs.declared.Removal.{Removal}
use Rattle.removals.specs.declared.ResetWaiting.{ResetWaiting}
use Rattle.removals.specs.Model.{under_of, waiting_of, waiting_as}
use Rattle.removals.specs.Counted.{overlong, reset_as}
use Rattle.removals.specs.Waits.{unite_into, cut_removal, remains}
use Rattle.removals.specs.Valid.{ValidRemoval, ValidWaiting}
use Rattle.removals.proofs.Packs.{no_removal_read, waiting-from}
use Rattle.removals.proofs.WaitingValid.{valid-unite-into}
use Rattle.removals.proofs.Lengths.{unite-few}

pub reset-long : (l : List Removal) → some overlong l ≡ true → reset_as l ≡ record { over = true; waiting = waiting_as [] }
unfolding reset_as
reset-long l t = rw t

pub reset-short : (l : List Removal) → some overlong l ≡ false → reset_as l ≡ record { over = false; waiting = waiting_as l }
unfolding reset_as
reset-short l t = rw t

-- the flag is the test
pub reset-over : (l : List Removal) → (reset_as l).over ≡ some overlong l
reset-over l = go (some overlong l) refl
  where
    go : (b : Bool) → some overlong l ≡ b → (reset_as l).over ≡ some overlong l
    go true t = ap (λ h. h.over) (reset-long l t) ∙ sym t
    go false t = ap (λ h. h.over) (reset-short l t) ∙ sym t

-- no more are stored than there are, and each of them is one of the list
pub stored-few : (l : List Removal) → (reset_as l).waiting.len ≤ length l
stored-few l = go (some overlong l) refl
  where
    go : (b : Bool) → some overlong l ≡ b → (reset_as l).waiting.len ≤ length l
    go true t = rw (reset-long l t) (omega arith)
    go false t = rw (reset-short l t) (omega arith)

pub stored-in : (l : List Removal) (w : Removal) → w ∈ waiting_of (reset_as l).waiting → w ∈ l
stored-in l w i = go (some overlong l) refl
  where
    go : (b : Bool) → some overlong l ≡ b → w ∈ l
    go true t = absurd (Memᴰ.not-nil (rw (waiting-from [] (ap (λ h. h.waiting) (reset-long l t))) at i))
    go false t = rw (waiting-from l (ap (λ h. h.waiting) (reset-short l t))) at i

-- i of the waiting removals are cut and united
pub record Resetting (c : List Dot) (xs : List Removal) (i : ℕ) (h : ResetWaiting) : Type 0 where
  pub state : List Removal
  pub packed : h ≡ reset_as state
  pub left : fold unite_into [] (sift remains (cut_removal c) xs) ≡ fold unite_into state (sift remains (cut_removal c) (drop i xs))
  pub few : length state ≤ i
  pub valid : ValidWaiting state

module _ {c : List Dot} {xs : List Removal} {i : ℕ} {h : ResetWaiting} (u : Resetting c xs i h) (k : i < length xs) where
  -- a removal that is left with a dot
  pub reset-next : {r : Removal} {o : ResetWaiting} → r ≡ cut_removal c (get_or xs i no_removal_read) → remains r ≡ true → ValidRemoval r
      → is_empty (under_of r) ≡ false → o ≡ reset_as (unite_into u.state r) → Resetting c xs (i + 1) o
  unfolding fold
  reset-next {r} e t v s q = record {
    state = unite_into u.state r;
    packed = q;
    left = u.left ∙ ap (fold unite_into u.state) (sift-yes xs i no_removal_read k remains (cut_removal c) (rw e at t)) ∙ rw e;
    few = omega (arith, u.few, unite-few u.state r);
    valid = valid-unite-into u.valid v s;
  }

  -- one that is not
  pub reset-skip : {r : Removal} → r ≡ cut_removal c (get_or xs i no_removal_read) → remains r ≡ false → Resetting c xs (i + 1) h
  reset-skip e t = record {
    state = u.state;
    packed = u.packed;
    left = u.left ∙ ap (fold unite_into u.state) (sift-no xs i no_removal_read k remains (cut_removal c) (rw e at t));
    few = omega (arith, u.few);
    valid = u.valid;
  }
