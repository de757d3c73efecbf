-- What is added up over places: one place more, what each of a list gives, and how much that is at most.
use mathlib.Core.Path.{◌≡◌, refl, ap, ◌∙◌}
use mathlib.Core.List.{List, [], ◌∷◌, ◌++◌, map}
use Prim.Native.Nat.{ℕ, zero, suc, ◌+◌, ◌*◌, ◌≤◌}
use native.Mathlib.Numerals.{add-one}
use native.Mathlib.Omega.{arith}
use lib.ListN.{length}
use Rattle.limits.specs.Limits.{dot_limit, value_limit}
use Rattle.answers.specs.Sizes.{value_most, register_most, value_size, entry_size}
use Rattle.listlaws.specs.Fold.{total_of}
use Rattle.maprecords.specs.Reading.{numbers_below}
use Rattle.memory.specs.Memory.{own_place, values_place, value_place, count_at, value_at, values_at, entry_held_at}
use Rattle.delivery.proofs.Views.{length-dots, value-dots, entry-dots, entry-values}

total-snoc : {A : Type 0} (f : A → ℕ) (l : List A) (x : A) → total_of f (l ++ (x ∷ [])) ≡ total_of f l + f x
unfolding total_of
total-snoc f [] x = omega arith
total-snoc f (y ∷ l) x = let h = total-snoc f l x in omega arith

module _ (f : ℕ → ℕ) where
  pub total-none : 0 ≡ total_of f (numbers_below 0)
  unfolding total_of numbers_below
  total-none = refl

  pub total-more : (n : ℕ) → total_of f (numbers_below (n + 1)) ≡ total_of f (numbers_below n) + f n
  unfolding numbers_below
  total-more n = rw (add-one n) (total-snoc f (numbers_below n) n)

  -- each gives so much at most
  pub total-most : (m n : ℕ) → ((i : ℕ) → f i ≤ m) → total_of f (numbers_below n) ≤ n * m
  unfolding total_of numbers_below
  total-most m zero h = omega arith
  total-most m (suc n) h = let k = total-most m n h in let e = total-snoc f (numbers_below n) n in let j = h n in omega arith

pub total-made : {A : Type 0} (size : A → ℕ) (g : ℕ → A) (l : List ℕ) → total_of size (map g l) ≡ total_of (λ i. size (g i)) l
unfolding total_of
total-made size g [] = refl
total-made size g (i ∷ l) = ap (λ n. size (g i) + n) (total-made size g l)

module _ (w : List ℕ) where
  pub value-counted : (at : ℕ) → value_size (value_at w at) ≡ 1 + count_at dot_limit (at + 8) w
  value-counted at = ap (λ n. 1 + n) (ap length (value-dots w at) ∙ length-dots w (at + 8))

  pub values-most : (j : ℕ) → total_of value_size (values_at w j) ≤ register_most
  unfolding values_at
  values-most j =
      let n = count_at value_limit (values_place j) w in
      let e = total-made value_size (λ i. value_at w (value_place j i)) (numbers_below n) in
      let m = total-most (λ i. value_size (value_at w (value_place j i))) value_most n (λ i. omega (arith, value-counted (value_place j i))) in
      omega arith

  pub entry-counted : (j : ℕ) → entry_size (entry_held_at w j) ≡ count_at dot_limit (own_place j) w + total_of value_size (values_at w j)
  entry-counted j =
      let d = ap length (entry-dots w j) ∙ length-dots w (own_place j) in
      let v = ap (total_of value_size) (entry-values w j) in
      omega arith
