-- What the library's `filter` and `all` give, in the words of the definitions.
use mathlib.Core.Path.{◌≡◌, refl, ap}
use mathlib.Core.Bool.{Bool, true, false, not, ◌&&◌, cond}
use mathlib.Core.List.{List, [], ◌∷◌}
use Rattle.std.specs.List.{filter, list_all}
use Rattle.listlaws.specs.First.{first_in, none}
use Rattle.listlaws.specs.Sift.{sift, those}

module _ {A : Type 0} (test : A → Bool) where
  pub those-is : (l : List A) → filter test l ≡ those test l
  unfolding sift
  those-is [] = refl
  those-is (x ∷ l) = ap (λ m. cond (test x) (x ∷ m) m) (those-is l)

  pub none-is : (l : List A) → list_all test l ≡ none (λ x. not (test x)) l
  unfolding first_in
  none-is [] = refl
  none-is (x ∷ l) = elim (test x) as (λ b. (b && list_all test l) ≡ cond (not b) false (none (λ y. not (test y)) l)) [
    | true ↦ none-is l
    | false ↦ refl
  ]
