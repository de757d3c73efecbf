-- The first element that passes a test: which it is (`first-cases`), and that there is none (`first-none`, `none-means`, `none-holds`).
use mathlib.Core.Path.{◌≡◌, refl, sym, ◌∙◌}
use mathlib.Core.Bool.{Bool, true, false, cond}
use mathlib.Core.Logic.{◌⊎◌, inl, inr, ⊎_elim}
use mathlib.Core.List.Memᴰ
use mathlib.Core.List.{List, [], ◌∷◌}
use lib.Dec.{eqb, eqb-suc-zero}
use lib.ListN.{length}
use Rattle.listlaws.specs.Sift.{sift, those}
use Rattle.listlaws.specs.First.{first_in, none}
use Rattle.listlaws.specs.Order.{◌∈◌}
use Rattle.listlaws.proofs.Orders.{apart}

module _ {A R : Type 0} (test : A → Bool) (give : A → R) (z : R) where
  -- an element that passes, and decides
  pub record Hit (l : List A) : Type 0 where
    pub found : A
    pub stands : found ∈ l
    pub passes : test found ≡ true
    pub given : first_in test give z l ≡ give found

  -- some element decides, or none passes
  pub first-cases : (l : List A) → Hit l ⊎ ((x : A) → x ∈ l → test x ≡ false)
  unfolding first_in
  first-cases [] = inr (λ x i. absurd (Memᴰ.not-nil i))
  first-cases (x ∷ l) = go (test x) refl (first-cases l)
    where
      go : (b : Bool) → test x ≡ b → Hit l ⊎ ((y : A) → y ∈ l → test y ≡ false) → Hit (x ∷ l) ⊎ ((y : A) → y ∈ (x ∷ l) → test y ≡ false)
      go true t r = inl (record { found = x; stands = Memᴰ.head refl; passes = t; given = rw t })
      go false t (inl h) =
          inl (record { found = h.found; stands = Memᴰ.tail h.stands; passes = h.passes; given = rw t h.given })
      go false t (inr f) = inr (λ y i. ⊎_elim (λ (e : y ≡ x). rw e t) (λ j. f y j) (Memᴰ.cases_cons i))

  pub first-none : (l : List A) → ((x : A) → x ∈ l → test x ≡ false) → first_in test give z l ≡ z
  unfolding first_in
  first-none [] f = refl
  first-none (x ∷ l) f = rw (f x (Memᴰ.head refl)) (first-none l (λ y i. f y (Memᴰ.tail i)))

module _ {A : Type 0} (p : A → Bool) where
  pub none-means : (l : List A) → none p l ≡ true → (x : A) → x ∈ l → p x ≡ false
  none-means l t = ⊎_elim (λ h. apart (sym t ∙ h.given)) (λ f. f) (first-cases p (λ x. false) true l)

  pub none-holds : (l : List A) → ((x : A) → x ∈ l → p x ≡ false) → none p l ≡ true
  none-holds l f = first-none p (λ x. false) true l f

  -- none passes where those that pass are none
  pub none-those : (l : List A) → eqb (length (those p l)) 0 ≡ none p l
  unfolding first_in sift
  none-those [] = refl
  none-those (x ∷ l) = go (p x) (none-those l)
    where
      go : (b : Bool) → eqb (length (those p l)) 0 ≡ none p l → eqb (length (cond b (x ∷ those p l) (those p l))) 0 ≡ cond b false (none p l)
      go true e = eqb-suc-zero (length (those p l))
      go false e = e
