-- Totals over lists: as a loop counts them, and as the lengths of what each element gives.
use mathlib.Core.Path.{◌≡◌, refl, ap, ◌∙◌}
use mathlib.Core.List.Memᴰ
use mathlib.Core.List.{List, [], ◌∷◌}
use Prim.Native.Nat.{ℕ, ◌+◌, ◌≤◌, ◌<◌}
use native.Mathlib.Omega.{arith}
use lib.ListN.{length, take, drop, get_or, length-append}
use Rattle.listlaws.specs.Order.{◌∈◌}
use Rattle.listlaws.proofs.Rests.{drop-step, drop-end}
use Rattle.listlaws.proofs.SliceRests
use Rattle.mapimage.specs.MapImage.{flat_from}
use Rattle.listlaws.specs.Fold.{total_of}

module _ {A : Type 0} (size : A → ℕ) where
  pub total-on : (xs : List A) (n i : ℕ) (d : A) → i < length (take n xs)
      → total_of size (drop i (take n xs)) ≡ size (get_or xs i d) + total_of size (drop (i + 1) (take n xs))
  unfolding total_of
  total-on xs n i d h = ap (total_of size) (drop-step xs n i d h)

  -- the same for a loop over a slice's items
  pub total-step : (xs : List A) (i : ℕ) (d : A) → i < length xs
      → total_of size (drop i xs) ≡ size (get_or xs i d) + total_of size (drop (i + 1) xs)
  unfolding total_of
  total-step xs i d h = ap (total_of size) (SliceRests.drop-step xs i d h)

  pub total-end : (l : List A) (i : ℕ) → length l ≤ i → total_of size (drop i l) ≡ 0
  unfolding total_of
  total-end l i h = ap (total_of size) (drop-end l i h)

  -- how many each gives
  pub length-flat : {B : Type 0} (f : ℕ → A → List B) → ((i : ℕ) (x : A) → length (f i x) ≡ size x) → (i : ℕ) (l : List A)
      → length (flat_from f i l) ≡ total_of size l
  unfolding flat_from total_of
  length-flat f e i [] = refl
  length-flat f e i (x ∷ l) = length-append (f i x) (flat_from f (i + 1) l) ∙ (let p = e i x in let q = length-flat f e (i + 1) l in omega arith)

pub total-sum : {A : Type 0} (f g : A → ℕ) (l : List A) → total_of f l + total_of g l ≡ total_of (λ x. f x + g x) l
unfolding total_of
total-sum f g [] = refl
total-sum f g (x ∷ l) = let h = total-sum f g l in omega arith

pub total-same : {A : Type 0} (f g : A → ℕ) → ((x : A) → f x ≡ g x) → (l : List A) → total_of f l ≡ total_of g l
unfolding total_of
total-same f g e [] = refl
total-same f g e (x ∷ l) = let h = total-same f g e l in let p = e x in omega arith

-- nothing of each is nothing of all
pub total-none : {A : Type 0} (f : A → ℕ) (l : List A) → ((x : A) → x ∈ l → f x ≡ 0) → total_of f l ≡ 0
unfolding total_of
total-none f [] e = refl
total-none f (x ∷ l) e = let h = total-none f l (λ y i. e y (Memᴰ.tail i)) in let p = e x (Memᴰ.head refl) in omega arith
