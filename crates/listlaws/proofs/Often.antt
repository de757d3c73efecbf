-- Lists in which each element occurs the same number of times are the same but for their order.
use mathlib.Core.Path.{◌≡◌, refl, ap, sym, ◌∙◌}
use mathlib.Core.Bool.{Bool, true, false, cond}
use mathlib.Core.Logic.{◌⊎◌, inl, inr, ⊎_elim}
use mathlib.Core.List.Memᴰ
use mathlib.Core.List.Permᴰ
use mathlib.Core.List.{List, [], ◌∷◌, Permᴰ}
use Prim.Native.Nat.{ℕ, zero, suc, ◌+◌, ◌<◌}
use native.Mathlib.Omega.{arith}
use lib.ListN.{length}
use Rattle.listlaws.specs.Sift.{sift, those}
use Rattle.listlaws.specs.Order.{◌∈◌}
use Rattle.listlaws.proofs.Those.{those-means}
use Rattle.listlaws.proofs.Perms.{perm_in, perm-those}

-- another order has as many elements
pub perm-length : {A : Type 0} {l m : List A} → Permᴰ l m → length l ≡ length m
perm-length Permᴰ.nil = refl
perm-length (Permᴰ.cons e d) = ap suc (perm-length d)
perm-length (Permᴰ.swap e f) = refl
perm-length (Permᴰ.trans d e) = perm-length d ∙ perm-length e

-- the first of a list that has any
pub first_of : {A : Type 0} (l : List A) → 0 < length l → (x : A) × (x ∈ l)
first_of [] h = absurd (omega arith)
first_of (x ∷ l) h = (x, Memᴰ.head refl)

-- a list is an element that stands in it, and others
without : {A : Type 0} {x : A} (l : List A) → x ∈ l → (others : List A) × Permᴰ l (x ∷ others)
without [] i = absurd (Memᴰ.not-nil i)
without {x = x} (y ∷ l) i =
    ⊎_elim (λ (e : x ≡ y). (l, Permᴰ.cons (sym e) (Permᴰ.refl l)))
    (λ j. let r = without l j in (y ∷ r.0, Permᴰ.trans (Permᴰ.cons refl r.1) (Permᴰ.swap refl refl))) (Memᴰ.cases_cons i)

-- a test for equality that is right for the elements of which P holds
module _ {A : Type 0} (same : A → A → Bool) (P : A → Type 0) (self : (x : A) → P x → same x x ≡ true) (exact : (x y : A) → P x → P y → same x y ≡ true
    → x ≡ y) where
  abbrev pub times : List A → A → ℕ
  times l v = length (those (same v) l)

  pub perm-times : {l m : List A} → Permᴰ l m → (v : A) → times l v ≡ times m v
  perm-times d v = perm-length (perm-those (same v) d)

  -- what occurs stands there
  stands : (l : List A) (v : A) → ((x : A) → x ∈ l → P x) → P v → 0 < times l v → v ∈ l
  stands l v f p h =
      let r = first_of (those (same v) l) h in
      let t = those-means (same v) l r.1 in
      rw (exact v r.0 p (f r.0 t.0) t.1) t.0

  -- one element more: once more, or as often
  abbrev once : Bool → ℕ
  once b = cond b 1 0

  times-cons : (x : A) (l : List A) (v : A) → times (x ∷ l) v ≡ once (same v x) + times l v
  unfolding sift
  times-cons x l v = go (same v x)
    where
      go : (b : Bool) → length (cond b (x ∷ those (same v) l) (those (same v) l)) ≡ once b + times l v
      go true = omega arith
      go false = omega arith

  -- as often for each, where it is so for those that stand in either
  everywhere : (l m : List A) → ((x : A) → x ∈ l → P x) → ((x : A) → x ∈ m → P x) → ((v : A) → (v ∈ l) ⊎ (v ∈ m) → times l v ≡ times m v) → (v : A)
      → P v → times l v ≡ times m v
  everywhere l m f g h v p = go (times l v) (times m v) refl refl
    where
      go : (a b : ℕ) → times l v ≡ a → times m v ≡ b → times l v ≡ times m v
      go zero zero d e = d ∙ sym e
      go (suc a) b d e = h v (inl (stands l v f p (omega arith)))
      go zero (suc b) d e = h v (inr (stands m v g p (omega arith)))

  occurs : (l m : List A) → ((x : A) → x ∈ l → P x) → ((x : A) → x ∈ m → P x) → ((v : A) → P v → times l v ≡ times m v) → Permᴰ l m
  unfolding sift
  occurs [] [] f g h = Permᴰ.nil
  occurs [] (y ∷ m) f g h =
      let p = g y (Memᴰ.head refl) in
      absurd (omega (arith, h y p, times-cons y m y, ap once (self y p)))
  occurs (x ∷ l) m f g h =
      let p = f x (Memᴰ.head refl) in
      let some : 0 < times m x = omega (arith, h x p, times-cons x l x, ap once (self x p)) in
      let r = without m (stands m x g p some) in
      Permᴰ.trans
      (Permᴰ.cons refl (occurs l r.0 (λ z i. f z (Memᴰ.tail i)) (λ z i. g z (perm_in r.1 z (Memᴰ.tail i)))
      (λ v q. omega (arith, h v q, times-cons x l v, times-cons x r.0 v, perm-times r.1 v))))
      (Permᴰ.symm r.1)

  pub times-perm : (l m : List A) → ((x : A) → x ∈ l → P x) → ((x : A) → x ∈ m → P x) → ((v : A) → (v ∈ l) ⊎ (v ∈ m) → times l v ≡ times m v)
      → Permᴰ l m
  times-perm l m f g h = occurs l m f g (everywhere l m f g h)
