-- Strictly ascending lists: the first stands before the rest (`head-before`), and two with the same members are one (`same-members`).
use mathlib.Core.Path.{◌≡◌, refl, ap₂, sym, ◌∙◌}
use mathlib.Core.Bool.{Bool, true, false}
use mathlib.Core.Logic.{⊎_elim}
use mathlib.Core.List.Memᴰ
use mathlib.Core.List.{List, [], ◌∷◌}
use Prim.Native.Nat.{ℕ, ◌≤◌}
use native.Mathlib.Omega.{arith}
use borrow.Author.Tests.{ltb-true, le-ltb}
use lib.ListN.{length}
use Rattle.listlaws.specs.Order.{◌∈◌, Ascending, next, by, Strict}

pub apart : {A : Type 0} → true ≡ false → A
apart {A} e = absurd (let z : ◌≡◌ {A = ℕ} 0 1 = cc in omega arith)

pub by-strict : {A : Type 0} (rank : A → ℕ) → Strict (by rank)
by-strict rank x y t = le-ltb (rank y) (rank x) (omega (arith, ltb-true (rank x) (rank y) t))

module _ {A : Type 0} {before : A → A → Bool} where
  pub tail-ascends : {x : A} {l : List A} → Ascending before (x ∷ l) → Ascending before l
  tail-ascends (next f a) = a

  pub head-before : {x : A} {l : List A} → Ascending before (x ∷ l) → (y : A) → y ∈ l → before x y ≡ true
  head-before (next f a) = f

  module _ (strict : Strict before) where
    -- nothing stands before itself
    pub never-itself : {B : Type 0} (x : A) → before x x ≡ true → B
    never-itself x t = apart (sym t ∙ strict x x t)

    -- the tail's members, where the heads are the same
    tails : {x y : A} {l m : List A} → x ≡ y → Ascending before (x ∷ l) → ((z : A) → z ∈ (x ∷ l) → z ∈ (y ∷ m)) → (z : A) → z ∈ l → z ∈ m
    tails {x} {y} {l} {m} e a f z i =
        ⊎_elim (λ (q : z ≡ y). never-itself x (rw (q ∙ sym e) at (head-before a z i))) (λ j. j) (Memᴰ.cases_cons (f z (Memᴰ.tail i)))

    -- the heads of lists with the same members are the same
    heads : {x y : A} {l m : List A} → Ascending before (x ∷ l) → Ascending before (y ∷ m) → x ∈ (y ∷ m) → y ∈ (x ∷ l) → x ≡ y
    heads {x} {y} a b i j =
        ⊎_elim (λ (e : x ≡ y). e)
        (λ i'. ⊎_elim (λ (e : y ≡ x). sym e) (λ j'. apart (sym (head-before a y j') ∙ strict y x (head-before b x i'))) (Memᴰ.cases_cons j))
        (Memᴰ.cases_cons i)

    -- strictly ascending lists with the same members are equal
    pub same-members : (l m : List A) → Ascending before l → Ascending before m → ((z : A) → z ∈ l → z ∈ m) → ((z : A) → z ∈ m → z ∈ l) → l ≡ m
    same-members [] [] a b f g = refl
    same-members [] (y ∷ m) a b f g = absurd (Memᴰ.not-nil (g y (Memᴰ.head refl)))
    same-members (x ∷ l) [] a b f g = absurd (Memᴰ.not-nil (f x (Memᴰ.head refl)))
    same-members (x ∷ l) (y ∷ m) a b f g =
        let e = heads a b (f x (Memᴰ.head refl)) (g y (Memᴰ.head refl)) in
        ap₂ (λ z s. z ∷ s) e (same-members l m (tail-ascends a) (tail-ascends b) (tails e a f) (tails (sym e) b g))

    -- one whose members stand in another is no longer than it
    pub no_longer : (m l : List A) → Ascending before l → Ascending before m → ((z : A) → z ∈ l → z ∈ m) → length l ≤ length m
    no_longer m [] a b f = omega arith
    no_longer [] (x ∷ l) a b f = absurd (Memᴰ.not-nil (f x (Memᴰ.head refl)))
    no_longer (y ∷ m) (x ∷ l) a b f =
        ⊎_elim
        (λ (e : x ≡ y). omega (arith, no_longer m l (tail-ascends a) (tail-ascends b) (tails e a f)))
        (λ i. omega (arith, no_longer m (x ∷ l) a (tail-ascends b) (λ z k. further i z k)))
        (Memᴰ.cases_cons (f x (Memᴰ.head refl)))
      where
        further : x ∈ m → (z : A) → z ∈ (x ∷ l) → z ∈ m
        further i z k =
            ⊎_elim
            (λ (e : z ≡ x). Memᴰ.cast e i)
            (λ k'. ⊎_elim (λ (q : z ≡ y). apart (sym (rw q at (head-before a z k')) ∙ strict y x (head-before b x i))) (λ j. j)
            (Memᴰ.cases_cons (f z k)))
            (Memᴰ.cases_cons k)
