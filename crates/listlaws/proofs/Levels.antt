-- Orders in which two elements that stand level stand alike to every other.
use mathlib.Core.Path.{◌≡◌, refl, sym, ◌∙◌}
use mathlib.Core.Bool.{Bool, true, false}
use mathlib.Core.Logic.{⊎_elim}
use mathlib.Core.List.Memᴰ
use mathlib.Core.List.{List, ◌∷◌, map}
use Rattle.listlaws.specs.Order.{◌∈◌, Ascending, nil, next, Strict}
use Rattle.listlaws.proofs.Orders.{apart, head-before}

-- neither stands before the other
abbrev pub Level : {A : Type 0} → (A → A → Bool) → A → A → Type 0
Level before x y = (before x y ≡ false) × (before y x ≡ false)

-- what is not before goes on
abbrev pub Steady : {A : Type 0} → (A → A → Bool) → Type 0
Steady {A} before = (x y z : A) → before x y ≡ false → before y z ≡ false → before x z ≡ false

-- of two that stand level in an ascending list, each is the other
pub level-same : {A : Type 0} {before : A → A → Bool} {l : List A} → Ascending before l → {x y : A} → x ∈ l → y ∈ l → Level before x y → x ≡ y
level-same nil i j e = absurd (Memᴰ.not-nil i)
level-same (next {x = z} {l = l} f a) {x} {y} i j e =
    ⊎_elim
    (λ (p : x ≡ z). ⊎_elim (λ (q : y ≡ z). p ∙ sym q) (λ k. apart (sym (f y k) ∙ (rw p at e.0))) (Memᴰ.cases_cons j))
    (λ k. ⊎_elim (λ (q : y ≡ z). apart (sym (f x k) ∙ (rw q at e.1))) (λ m. level-same a k m e) (Memᴰ.cases_cons j))
    (Memᴰ.cases_cons i)

module _ {A : Type 0} {before : A → A → Bool} (strict : Strict before) (steady : Steady before) where
  -- x is before y, and z not
  pub before-then : {x y z : A} → before x y ≡ true → before z y ≡ false → before x z ≡ true
  before-then {x} {y} {z} t e = go (before x z) refl
    where
      go : (b : Bool) → before x z ≡ b → b ≡ true
      go true f = refl
      go false f = apart (sym t ∙ steady x z y f e)

  -- y is before z, and not before x
  pub then-before : {x y z : A} → before y x ≡ false → before y z ≡ true → before x z ≡ true
  then-before {x} {y} {z} e t = go (before x z) refl
    where
      go : (b : Bool) → before x z ≡ b → b ≡ true
      go true f = refl
      go false f = apart (sym t ∙ steady y x z e f)

  pub before-before : {x y z : A} → before x y ≡ true → before y z ≡ true → before x z ≡ true
  before-before {x} {y} {z} t u = before-then t (strict y z u)

  -- what is before the first of an ascending list is before all of it
  pub before-all : {n x : A} {l : List A} → before n x ≡ true → Ascending before (x ∷ l) → (y : A) → y ∈ (x ∷ l) → before n y ≡ true
  before-all {n} {x} t a y i =
      ⊎_elim (λ (e : y ≡ x). rw e t) (λ j. before-before t (head-before a y j)) (Memᴰ.cases_cons i)

  -- a change that leaves each element at its place leaves the list ascending
  pub map-ascends : (change : A → A) → ((x : A) → Level before x (change x)) → {l : List A} → Ascending before l → Ascending before (map change l)
  map-ascends change keep nil = nil
  map-ascends change keep (next {x = x} {l = l} f a) =
      next {x = change x}
      (λ y i. let r = Memᴰ.of_map change l i in rw (← r.2) (then-before (keep x).0 (before-then (f r.0 r.1) (keep r.0).1)))
      (map-ascends change keep a)
