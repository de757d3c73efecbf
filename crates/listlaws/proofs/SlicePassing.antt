-- A loop that looks at the used places of an array for the first that passes a test, and returns what that gives.
use mathlib.Core.Path.{◌≡◌, refl, ap, sym, ◌∙◌}
use mathlib.Core.Bool.{Bool, true, false}
use mathlib.Core.List.{List}
use Prim.Native.Nat.{ℕ, ◌+◌, ◌≤◌, ◌<◌}
use lib.ListN.{length, drop, get_or}
use Rattle.listlaws.specs.First.{first_in}
use Rattle.listlaws.proofs.SliceRests.{first-here, first-later, drop-end}

-- i of the n places in use are passed, and none of them decided
pub record Passing {A R : Type 0} (test : A → Bool) (give : A → R) (z : R) (xs : List A) (i : ℕ) : Type 0 where
  pub left : first_in test give z xs ≡ first_in test give z (drop i xs)

module _ {A R : Type 0} {test : A → Bool} {give : A → R} {z : R} {xs : List A} where
  pub passing-start : Passing test give z xs 0
  passing-start = record { left = refl }

  module _ {i : ℕ} (d : A) (p : Passing test give z xs i) (h : i < length xs) where
    pub passing-here : test (get_or xs i d) ≡ true → give (get_or xs i d) ≡ first_in test give z xs
    passing-here t = sym (p.left ∙ first-here xs i d h test give z t)

    pub passing-on : test (get_or xs i d) ≡ false → Passing test give z xs (i + 1)
    passing-on t = record { left = p.left ∙ first-later xs i d h test give z t }

  pub passing-end : {i : ℕ} → Passing test give z xs i → length xs ≤ i → z ≡ first_in test give z xs
  unfolding first_in
  passing-end {i} p h = sym (p.left ∙ ap (first_in test give z) (drop-end xs i h))
