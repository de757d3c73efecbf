-- A loop that looks at the used places of an array for the first that passes a test, and returns what that gives.
use mathlib.Core.Path.{◌≡◌, refl, ap, sym, ◌∙◌}
use mathlib.Core.Bool.{Bool, true, false}
use mathlib.Core.List.{List}
use Prim.Native.Nat.{ℕ, ◌+◌, ◌≤◌, ◌<◌}
use lib.ListN.{length, take, drop, get_or}
use Rattle.listlaws.specs.First.{first_in}
use Rattle.listlaws.proofs.Rests.{first-here, first-later, drop-end}

-- i of the n places in use are passed, and none of them decided
pub record Passing {A R : Type 0} (test : A → Bool) (give : A → R) (z : R) (xs : List A) (n i : ℕ) : Type 0 where
  pub left : first_in test give z (take n xs) ≡ first_in test give z (drop i (take n xs))

module _ {A R : Type 0} {test : A → Bool} {give : A → R} {z : R} {xs : List A} {n : ℕ} where
  pub passing-start : Passing test give z xs n 0
  passing-start = record { left = refl }

  module _ {i : ℕ} (d : A) (p : Passing test give z xs n i) (h : i < length (take n xs)) where
    pub passing-here : test (get_or xs i d) ≡ true → give (get_or xs i d) ≡ first_in test give z (take n xs)
    passing-here t = sym (p.left ∙ first-here xs n i d h test give z t)

    pub passing-on : test (get_or xs i d) ≡ false → Passing test give z xs n (i + 1)
    passing-on t = record { left = p.left ∙ first-later xs n i d h test give z t }

  pub passing-end : {i : ℕ} → Passing test give z xs n i → length (take n xs) ≤ i → z ≡ first_in test give z (take n xs)
  unfolding first_in
  passing-end {i} p h = sym (p.left ∙ ap (first_in test give z) (drop-end (take n xs) i h))
