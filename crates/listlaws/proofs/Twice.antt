-- Laws of changes that agree, of sifting twice, and of sifting what was changed before.
use mathlib.Core.Path.{◌≡◌, refl}
use mathlib.Core.Bool.{Bool, true, false, cond}
use mathlib.Core.List.Memᴰ
use mathlib.Core.List.{List, [], ◌∷◌, map}
use Rattle.listlaws.specs.Sift.{sift}
use Rattle.listlaws.specs.Order.{◌∈◌}

-- changes that agree on the elements
pub map_same : {A B : Type 0} (f g : A → B) (l : List A) → ((x : A) → x ∈ l → g x ≡ f x) → map g l ≡ map f l
map_same f g [] e = refl
map_same f g (x ∷ l) e = rw (e x (Memᴰ.head refl), map_same f g l (λ y i. e y (Memᴰ.tail i)))

module _ {A B : Type 0} (keep : B → Bool) where
  pub sift-same : (f g : A → B) (l : List A) → ((x : A) → x ∈ l → f x ≡ g x) → sift keep f l ≡ sift keep g l
  unfolding sift
  sift-same f g [] e = refl
  sift-same f g (x ∷ l) e = rw (e x (Memᴰ.head refl), sift-same f g l (λ y i. e y (Memᴰ.tail i)))

  pub sift-map : {C : Type 0} (f : A → B) (g : C → A) (l : List C) → sift keep f (map g l) ≡ sift keep (λ x. f (g x)) l
  unfolding sift
  sift-map f g [] = refl
  sift-map f g (x ∷ l) = rw (sift-map f g l)

-- a change that brings nothing back, behind another
pub sift-sift : {A B : Type 0} (keep : B → Bool) (f : A → B) (g : B → B) (l : List A)
    → ((x : A) → x ∈ l → keep (f x) ≡ false → keep (g (f x)) ≡ false) → sift keep g (sift keep f l) ≡ sift keep (λ x. g (f x)) l
unfolding sift
sift-sift keep f g [] h = refl
sift-sift {A} {B} keep f g (x ∷ l) h = go (keep (f x)) refl (sift-sift keep f g l (λ y i. h y (Memᴰ.tail i)))
  where
    go : (b : Bool) → keep (f x) ≡ b → sift keep g (sift keep f l) ≡ sift keep (λ y. g (f y)) l
        → sift keep g (cond b (f x ∷ sift keep f l) (sift keep f l)) ≡ cond (keep (g (f x))) (g (f x) ∷ sift keep (λ y. g (f y)) l)
        (sift keep (λ y. g (f y)) l)
    go true t e = rw e
    go false t e = rw (h x (Memᴰ.head refl) t) e
