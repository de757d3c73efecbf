-- Sifting makes a list no longer (`length-sift`), and goes over two lists one behind the other (`sift-append`).
use mathlib.Core.Path.{◌≡◌, refl, ap}
use mathlib.Core.Bool.{Bool, true, false, cond}
use mathlib.Core.List.{List, [], ◌∷◌, ◌++◌}
use Prim.Native.Nat.{suc, ◌≤◌}
use native.Mathlib.Omega.{arith}
use lib.ListN.{length}
use Rattle.listlaws.specs.Sift.{sift, those}

module _ {A B : Type 0} (keep : B → Bool) (change : A → B) where
  pub sift-append : (l m : List A) → sift keep change (l ++ m) ≡ sift keep change l ++ sift keep change m
  unfolding sift
  sift-append [] m = refl
  sift-append (x ∷ l) m = go (keep (change x)) (sift keep change l) (sift-append l m)
    where
      go : (b : Bool) {s : List B} (t : List B) → s ≡ t ++ sift keep change m
          → cond b (change x ∷ s) s ≡ cond b (change x ∷ t) t ++ sift keep change m
      go true t e = ap (λ u. change x ∷ u) e
      go false t e = e

  pub length-sift : (l : List A) → length (sift keep change l) ≤ length l
  unfolding sift
  length-sift [] = omega arith
  length-sift (x ∷ l) = go (keep (change x)) (sift keep change l) (length-sift l)
    where
      go : (b : Bool) (s : List B) → length s ≤ length l → length (cond b (change x ∷ s) s) ≤ suc (length l)
      go true s h = omega arith
      go false s h = omega arith

-- the first element, and the rest
pub sift-one : {A B : Type 0} (keep : B → Bool) (change : A → B) (x : A) (l : List A)
    → sift keep change (x ∷ l) ≡ those keep (change x ∷ []) ++ sift keep change l
unfolding sift
sift-one keep change x l = go (keep (change x))
  where
    go : (b : Bool) → cond b (change x ∷ sift keep change l) (sift keep change l) ≡ cond b (change x ∷ []) [] ++ sift keep change l
    go true = refl
    go false = refl
