-- Laws of those elements that pass a test: which they are, their order, and two tests in turn.
use mathlib.Core.Path.{◌≡◌, refl, ap, sym, ◌∙◌}
use mathlib.Core.Bool.{Bool, true, false, cond, ◌&&◌}
use mathlib.Core.Logic.{⊎_elim}
use mathlib.Core.List.Memᴰ
use mathlib.Core.List.{List, [], ◌∷◌}
use Rattle.listlaws.specs.Sift.{sift, those}
use Rattle.listlaws.specs.Order.{◌∈◌, Ascending, nil, next}

module _ {A B : Type 0} (keep : B → Bool) (change : A → B) where
  -- z is the change of an element, and passes
  pub record Sifted (l : List A) (z : B) : Type 0 where
    pub source : A
    pub stands : source ∈ l
    pub changed : z ≡ change source
    pub passes : keep z ≡ true

  -- what a sift gives
  pub sift-means : (l : List A) {z : B} → z ∈ sift keep change l → Sifted l z
  unfolding sift
  sift-means [] i = absurd (Memᴰ.not-nil i)
  sift-means (x ∷ l) {z} i = go (keep (change x)) refl (λ j. sift-means l j) i
    where
      later : Sifted l z → Sifted (x ∷ l) z
      later r = record { source = r.source; stands = Memᴰ.tail r.stands; changed = r.changed; passes = r.passes }

      go : (b : Bool) → keep (change x) ≡ b → (z ∈ sift keep change l → Sifted l z) → z ∈ cond b (change x ∷ sift keep change l) (sift keep change l)
          → Sifted (x ∷ l) z
      go true t f j =
          ⊎_elim
          (λ (e : z ≡ change x). record { source = x; stands = Memᴰ.head refl; changed = e; passes = ap keep e ∙ t })
          (λ k. later (f k)) (Memᴰ.cases_cons j)
      go false t f j = later (f j)

  -- the change of an element stands there if it passes
  pub sift-holds : {x : A} {l : List A} → x ∈ l → keep (change x) ≡ true → change x ∈ sift keep change l
  unfolding sift
  sift-holds {x = x} (Memᴰ.head {x = y} e) t = rw (← e, t) (Memᴰ.head refl)
  sift-holds {x = x} (Memᴰ.tail {x = y} {xs = l} i) t = go (keep (change y)) (sift-holds i t)
    where
      go : (b : Bool) → change x ∈ sift keep change l → change x ∈ cond b (change y ∷ sift keep change l) (sift keep change l)
      go true j = Memᴰ.tail j
      go false j = j

module _ {A : Type 0} where
  module _ (p : A → Bool) where
    -- those that pass are the elements that pass
    pub those-means : (l : List A) {z : A} → z ∈ those p l → (z ∈ l) × (p z ≡ true)
    those-means l i = let r = sift-means p (λ x. x) l i in (Memᴰ.cast r.changed r.stands, r.passes)

    pub those-holds : {l : List A} {z : A} → z ∈ l → p z ≡ true → z ∈ those p l
    those-holds i t = sift-holds p (λ x. x) i t

    pub those-ascends : {before : A → A → Bool} {l : List A} → Ascending before l → Ascending before (those p l)
    unfolding sift
    those-ascends nil = nil
    those-ascends {before} (next {x = x} {l = l} f a) = go (p x) (those-ascends a)
      where
        go : (b : Bool) → Ascending before (those p l) → Ascending before (cond b (x ∷ those p l) (those p l))
        go true s = next (λ y i. f y (those-means l i).0) s
        go false s = s

  -- tests that agree on the elements keep the same ones
  pub those-same : (p q : A → Bool) (l : List A) → ((z : A) → z ∈ l → p z ≡ q z) → those p l ≡ those q l
  unfolding sift
  those-same p q [] f = refl
  those-same p q (x ∷ l) f = rw (f x (Memᴰ.head refl), those-same p q l (λ z i. f z (Memᴰ.tail i)))

  -- all pass
  pub those-all : (p : A → Bool) (l : List A) → ((z : A) → z ∈ l → p z ≡ true) → those p l ≡ l
  unfolding sift
  those-all p [] f = refl
  those-all p (x ∷ l) f = rw (f x (Memᴰ.head refl), those-all p l (λ z i. f z (Memᴰ.tail i)))

  -- none passes
  pub those-none : (p : A → Bool) (l : List A) → ((z : A) → z ∈ l → p z ≡ false) → those p l ≡ []
  unfolding sift
  those-none p [] f = refl
  those-none p (x ∷ l) f = rw (f x (Memᴰ.head refl), those-none p l (λ z i. f z (Memᴰ.tail i)))

  -- two tests in turn are one test of both
  pub those-those : (p q : A → Bool) (l : List A) → those p (those q l) ≡ those (λ x. q x && p x) l
  unfolding sift
  those-those p q [] = refl
  those-those p q (x ∷ l) = go (q x) (those-those p q l)
    where
      go : (b : Bool) → those p (those q l) ≡ those (λ y. q y && p y) l
          → those p (cond b (x ∷ those q l) (those q l)) ≡ cond (b && p x) (x ∷ those (λ y. q y && p y) l) (those (λ y. q y && p y) l)
      go true e = rw e
      go false e = e

  pub those-again : (p : A → Bool) (l : List A) → those p (those p l) ≡ those p l
  those-again p l = those-all p (those p l) (λ z i. (those-means p l i).1)

  pub those-trade : (p q : A → Bool) (l : List A) → those p (those q l) ≡ those q (those p l)
  those-trade p q l = those-those p q l ∙ those-same _ _ l (λ z i. both (p z) (q z)) ∙ sym (those-those q p l)
    where
      both : (b c : Bool) → c && b ≡ b && c
      both true true = refl
      both true false = refl
      both false true = refl
      both false false = refl
