-- Some element passes a test: which, and of two woven lists where each element went.
use mathlib.Core.Path.{◌≡◌, refl, ap, sym, ◌∙◌}
use mathlib.Core.Bool.{Bool, true, false, not, ◌||◌}
use mathlib.Core.Logic.{◌⊎◌, inl, inr, ⊎_elim}
use mathlib.Core.List.{List}
use Rattle.listlaws.specs.First.{some}
use Rattle.listlaws.specs.Order.{◌∈◌, Ascending, Strict}
use Rattle.listlaws.specs.Weave.{weave}
use Rattle.listlaws.proofs.Orders.{apart}
use Rattle.listlaws.proofs.Firsts.{first-cases, first-none}
use Rattle.listlaws.proofs.Levels.{Level, Steady}
use Rattle.listlaws.proofs.Woven.{weave-has-first, weave-has-second, weave-has-both}

module _ {A : Type 0} (p : A → Bool) where
  -- one passes, or none
  pub some-cases : (l : List A) → ((x : A) × (x ∈ l) × (p x ≡ true)) ⊎ ((x : A) → x ∈ l → p x ≡ false)
  some-cases l = ⊎_elim (λ h. inl (h.found, h.stands, h.passes)) (λ f. inr f) (first-cases p (λ x. true) false l)

  pub some-means : (l : List A) → some p l ≡ true → (x : A) × (x ∈ l) × (p x ≡ true)
  some-means l t = ⊎_elim (λ r. r) (λ f. apart (sym t ∙ first-none p (λ x. true) false l f)) (some-cases l)

  pub some_holds : {l : List A} {x : A} → x ∈ l → p x ≡ true → some p l ≡ true
  some_holds {l} {x} i t = ⊎_elim (λ h. h.given) (λ f. apart (sym t ∙ f x i)) (first-cases p (λ y. true) false l)

  -- none passes
  pub some-false : {l : List A} → some p l ≡ false → (x : A) → x ∈ l → p x ≡ false
  some-false {l} t x i = go (p x) refl
    where
      go : (b : Bool) → p x ≡ b → b ≡ false
      go true e = apart (sym (some_holds i e) ∙ t)
      go false e = refl

  pub false-some : (l : List A) → ((x : A) → x ∈ l → p x ≡ false) → some p l ≡ false
  false-some l f = first-none p (λ x. true) false l f

module _ {A : Type 0} (before : A → A → Bool) where
  -- one stands level with x, or none
  pub level-cases : (x : A) (l : List A) → ((y : A) × (y ∈ l) × Level before x y) ⊎ ((y : A) → y ∈ l → Level before x y → ⊥)
  level-cases x l =
      ⊎_elim (λ r. inl (r.0, r.1, level (before x r.0) (before r.0 x) r.2))
      (λ f. inr (λ y i e. apart (sym (ap not (apart-or e.0 e.1)) ∙ f y i)))
      (some-cases (λ y. not (before x y || before y x)) l)
    where
      level : (b c : Bool) → not (b || c) ≡ true → (b ≡ false) × (c ≡ false)
      level true c t = apart (sym t)
      level false true t = apart (sym t)
      level false false t = (refl, refl)

      apart-or : {b c : Bool} → b ≡ false → c ≡ false → (b || c) ≡ false
      apart-or e f = rw (e, f)

  module _ (first second : A → A) (both : A → A → A) (strict : Strict before) (steady : Steady before) {l m : List A} (a : Ascending before l)
      (b : Ascending before m) where
    -- an element of the first list stands there alone, or with one of the second
    pub weave-left : {x : A} → x ∈ l → (first x ∈ weave before first second both l m)
        ⊎ ((y : A) × (y ∈ m) × Level before x y × (both x y ∈ weave before first second both l m))
    weave-left {x} i =
        ⊎_elim (λ r. inr (r.0, r.1, r.2, weave-has-both before first second both strict steady a b i r.1 r.2))
        (λ f. inl (weave-has-first before first second both i f)) (level-cases x m)

    pub weave-right : {y : A} → y ∈ m → (second y ∈ weave before first second both l m)
        ⊎ ((x : A) × (x ∈ l) × Level before x y × (both x y ∈ weave before first second both l m))
    weave-right {y} i =
        ⊎_elim
        (λ r. let e : Level before r.0 y = (r.2.1, r.2.0) in inr
        (r.0, r.1, e, weave-has-both before first second both strict steady a b r.1 i e))
        (λ f. inl (weave-has-second before first second both i (λ x j e. f x j (e.1, e.0)))) (level-cases y l)
