-- What holds of each element, with one element more (`each_snoc`, `every-at`); and a test decided, or two that hold together (`decide`, `both`).
use mathlib.Core.Path.{◌≡◌, refl, ap, sym, ◌∙◌}
use mathlib.Core.Bool.{Bool, true, false, cond, ◌&&◌, and_assoc, and-true}
use mathlib.Core.Logic.{⊎_elim}
use mathlib.Core.List.Memᴰ
use mathlib.Core.List.{List, [], ◌∷◌, ◌++◌, append_assoc}
use Prim.Native.Nat.{ℕ, suc, ◌+◌}
use native.Mathlib.Omega.{arith}
use Rattle.listlaws.specs.Order.{◌∈◌}
use Rattle.listlaws.proofs.Orders.{apart}
use Rattle.scan.specs.Each.{every, each_after, count_after, each, count_given}

pub both_left : (a b : Bool) → (a && b) ≡ true → a ≡ true
both_left true b e = refl
both_left false b e = e

pub both_right : (a b : Bool) → (a && b) ≡ true → b ≡ true
both_right true b e = e
both_right false b e = apart (sym e)

pub both : (a b : Bool) → a ≡ true → b ≡ true → (a && b) ≡ true
both a b e f = rw (e, f)

-- a test that came out one way or the other
pub decide : {R : Type 0} (b : Bool) → (b ≡ true → R) → (b ≡ false → R) → R
decide true f g = f refl
decide false f g = g refl

module _ {A : Type 0} where
  pub every-snoc : (test : A → Bool) (l : List A) (x : A) → every test (l ++ (x ∷ [])) ≡ every test l && test x
  unfolding every
  every-snoc test [] x = and-true (test x)
  every-snoc test (y ∷ l) x = rw (every-snoc test l x) (sym (and_assoc (test y) (every test l) (test x)))

  pub every-at : (test : A → Bool) (l : List A) (x : A) → every test l ≡ true → x ∈ l → test x ≡ true
  unfolding every
  every-at test [] x e i = absurd (Memᴰ.not-nil i)
  every-at test (y ∷ l) x e i =
      ⊎_elim (λ (q : x ≡ y). rw q (both_left (test y) (every test l) e)) (λ j. every-at test l x (both_right (test y) (every test l) e) j)
      (Memᴰ.cases_cons i)

  pub every_of : (test : A → Bool) (l : List A) → ((x : A) → x ∈ l → test x ≡ true) → every test l ≡ true
  unfolding every
  every_of test [] f = refl
  every_of test (y ∷ l) f = both (test y) (every test l) (f y (Memᴰ.head refl)) (every_of test l (λ x i. f x (Memᴰ.tail i)))

  each_after_lem : (test : List A → A → Bool) (seen l : List A) (x : A) → each_after test seen (l ++ (x ∷ [])) ≡ each_after test seen l
      && test (seen ++ l) x
  unfolding each_after
  each_after_lem test seen [] x = and-true (test seen x) ∙ ap (λ s. test s x) (sym (mathlib.Core.List.append-nil seen))
  each_after_lem test seen (y ∷ l) x =
      rw (each_after_lem test (seen ++ (y ∷ [])) l x, append_assoc seen (y ∷ []) l)
      (sym (and_assoc (test seen y) (each_after test (seen ++ (y ∷ [])) l) (test (seen ++ (y ∷ l)) x)))

  pub each_snoc : (test : List A → A → Bool) (l : List A) (x : A) → each test (l ++ (x ∷ [])) ≡ each test l && test l x
  each_snoc test l x = each_after_lem test [] l x

  count-after : (test : List A → A → Bool) (seen l : List A) (x : A) → count_after test seen (l ++ (x ∷ [])) ≡ cond (test (seen ++ l) x)
      (count_after test seen l + 1) (count_after test seen l)
  unfolding count_after
  count-after test seen [] x = rw (mathlib.Core.List.append-nil seen)
  count-after test seen (y ∷ l) x =
      rw (count-after test (seen ++ (y ∷ [])) l x, append_assoc seen (y ∷ []) l)
      (go (test seen y) (test (seen ++ (y ∷ l)) x) (count_after test (seen ++ (y ∷ [])) l))
    where
      go : (a b : Bool) (n : ℕ) → cond a (suc (cond b (n + 1) n)) (cond b (n + 1) n) ≡ cond b (cond a (suc n) n + 1) (cond a (suc n) n)
      go true true n = omega arith
      go true false n = refl
      go false true n = refl
      go false false n = refl

  pub count-snoc : (test : List A → A → Bool) (l : List A) (x : A) → count_given test (l ++ (x ∷ [])) ≡ cond (test l x) (count_given test l + 1)
      (count_given test l)
  count-snoc test l x = count-after test [] l x
