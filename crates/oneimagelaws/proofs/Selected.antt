-- Those of ascending records that pass a test are an ascending list of which each stands there and passes, and that holds all that pass.
use mathlib.Core.Path.{◌≡◌, refl, ap, ap₂, ◌∙◌}
use mathlib.Core.Bool.{Bool, true}
use mathlib.Core.List.Memᴰ
use mathlib.Core.List.{List, [], ◌∷◌, map}
use native.Mathlib.Omega.{arith}
use Rattle.listlaws.specs.Order.{◌∈◌, Ascending, Strict}
use Rattle.listlaws.specs.Sift.{those}
use Rattle.listlaws.proofs.Orders.{same-members}
use Rattle.listlaws.proofs.Those.{those-means, those-holds, those-ascends}
use Rattle.records.specs.declared.Record.{Record}
use Rattle.records.specs.Kinds.{before}
use Rattle.scan.proofs.Eachs.{decide}
use Rattle.scan.proofs.Befores.{Before, before-fields, before-trans}

-- no two records stand before each other
pub before-strict : Strict before
before-strict x y t = decide (before y x) (λ u. absurd (around (before-trans (before-fields t) (before-fields u)))) (λ f. f)
  where
    around : Before x x → ⊥
    around b = omega (arith, b.actor refl refl refl)

-- elements that are made again of what they give
pub made_again : {A B : Type 0} (give : B → A) (back : A → B) (l : List B) → ((x : B) → x ∈ l → back (give x) ≡ x) → map back (map give l) ≡ l
made_again give back [] f = refl
made_again give back (x ∷ l) f = ap₂ ◌∷◌ (f x (Memᴰ.head refl)) (made_again give back l (λ y i. f y (Memᴰ.tail i)))

module _ (test : Record → Bool) {l : List Record} (a : Ascending before l) where
  pub selected : {target : List Record} → Ascending before target → ((r : Record) → r ∈ l → test r ≡ true → r ∈ target)
      → ((r : Record) → r ∈ target → (r ∈ l) × (test r ≡ true)) → those test l ≡ target
  selected {target} b f g =
      same-members before-strict (those test l) target (those-ascends test a) b
      (λ r i. let m = those-means test l i in f r m.0 m.1) (λ r i. let m = g r i in those-holds test m.0 m.1)

  -- the records that things give, and the things again
  module _ {B : Type 0} (give : B → Record) (back : Record → B) (items : List B) where
    pub selected-back : Ascending before (map give items) → ((x : B) → back (give x) ≡ x)
        → ((r : Record) → r ∈ l → test r ≡ true → (x : B) × (x ∈ items) × (r ≡ give x))
        → ((x : B) → x ∈ items → (give x ∈ l) × (test (give x) ≡ true)) → map back (those test l) ≡ items
    selected-back b e f g =
        ap (map back)
        (selected b (λ r i t. let y = f r i t in Memᴰ.cast y.2 (Memᴰ.map give y.1))
        (λ r i. let y = Memᴰ.of_map give items i in rw (← y.2) (g y.0 y.1)))
        ∙ made_again give back items (λ x i. e x)
