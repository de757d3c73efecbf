-- Laws of putting in order: what stands there, that it ascends, how many pass a test, and the place of an element as a count of those before it.
use mathlib.Core.Path.{◌≡◌, refl, ap, ◌∙◌}
use mathlib.Core.Bool.{Bool, true, false, cond, ◌||◌}
use mathlib.Core.Logic.{◌⊎◌, inl, inr, ⊎_elim}
use mathlib.Core.List.Memᴰ
use mathlib.Core.List.{List, [], ◌∷◌}
use Prim.Native.Nat.{ℕ, zero, suc, ◌+◌, ◌<◌}
use native.Mathlib.Omega.{arith}
use lib.ListN.{length, get_or}
use Rattle.listlaws.specs.Order.{◌∈◌, Ascending, nil, next, Strict}
use Rattle.listlaws.specs.Sift.{sift, those}
use Rattle.listlaws.specs.Fold.{fold}
use Rattle.listlaws.proofs.Orders.{head-before, tail-ascends, never-itself}
use Rattle.listlaws.proofs.Those.{those-none}
use Rattle.scan.proofs.Eachs.{decide}
use Rattle.salvagerules.specs.Steps.{insert_by, in_order_by}

abbrev pub Leads : {A : Type 0} → (A → A → Bool) → Type 0
Leads {A} first = (x y z : A) → first x y ≡ true → first y z ≡ true → first x z ≡ true

-- one of two stands before the other
abbrev pub either_first : {A : Type 0} → (A → A → Bool) → A → A → Bool
either_first first x y = first x y || first y x

module _ {A : Type 0} (first : A → A → Bool) where
  pub insert-means : (x : A) (l : List A) {z : A} → z ∈ insert_by first x l → (z ≡ x) ⊎ (z ∈ l)
  unfolding insert_by
  insert-means x [] i = Memᴰ.cases_cons i
  insert-means x (y ∷ l) {z} i =
      decide (first x y) (λ t. Memᴰ.cases_cons (rw t at i))
      (λ f. ⊎_elim (λ (e : z ≡ y). inr (Memᴰ.head e)) (λ k. ⊎_elim (λ e. inl e) (λ m. inr (Memᴰ.tail m)) (insert-means x l k))
      (Memᴰ.cases_cons (rw f at i)))

  pub insert-new : (x : A) (l : List A) → x ∈ insert_by first x l
  unfolding insert_by
  insert-new x [] = Memᴰ.head refl
  insert-new x (y ∷ l) = decide (first x y) (λ t. rw t (Memᴰ.head refl)) (λ f. rw f (Memᴰ.tail (insert-new x l)))

  pub insert-old : (x : A) (l : List A) {z : A} → z ∈ l → z ∈ insert_by first x l
  unfolding insert_by
  insert-old x [] i = absurd (Memᴰ.not-nil i)
  insert-old x (y ∷ l) {z} i =
      decide (first x y) (λ t. rw t (Memᴰ.tail i))
      (λ f. rw f (⊎_elim (λ (e : z ≡ y). Memᴰ.head e) (λ k. Memᴰ.tail (insert-old x l k)) (Memᴰ.cases_cons i)))

  abbrev grown : List A → List A → List A
  grown s l = fold (λ s x. insert_by first x s) s l

  grown-means : (s l : List A) {z : A} → z ∈ grown s l → (z ∈ s) ⊎ (z ∈ l)
  unfolding fold
  grown-means s [] i = inl i
  grown-means s (x ∷ l) {z} i =
      ⊎_elim (λ j. ⊎_elim (λ (e : z ≡ x). inr (Memᴰ.head e)) (λ k. inl k) (insert-means x s j)) (λ j. inr (Memᴰ.tail j))
      (grown-means (insert_by first x s) l i)

  grown-old : (s l : List A) {z : A} → z ∈ s → z ∈ grown s l
  unfolding fold
  grown-old s [] i = i
  grown-old s (x ∷ l) i = grown-old (insert_by first x s) l (insert-old x s i)

  grown-new : (s l : List A) {z : A} → z ∈ l → z ∈ grown s l
  unfolding fold
  grown-new s [] i = absurd (Memᴰ.not-nil i)
  grown-new s (x ∷ l) {z} i =
      ⊎_elim (λ (e : z ≡ x). grown-old (insert_by first x s) l (rw e (insert-new x s))) (λ j. grown-new (insert_by first x s) l j)
      (Memᴰ.cases_cons i)

  pub order-means : (l : List A) {z : A} → z ∈ in_order_by first l → z ∈ l
  unfolding in_order_by
  order-means l i = ⊎_elim (λ j. absurd (Memᴰ.not-nil j)) (λ j. j) (grown-means [] l i)

  pub order-holds : (l : List A) {z : A} → z ∈ l → z ∈ in_order_by first l
  unfolding in_order_by
  order-holds l i = grown-new [] l i

  module _ (leads : Leads first) where
    insert-ascends : (x : A) (l : List A) → Ascending first l → ((y : A) → y ∈ l → either_first first x y ≡ true)
        → Ascending first (insert_by first x l)
    unfolding insert_by
    insert-ascends x [] a h = next (λ y i. absurd (Memᴰ.not-nil i)) nil
    insert-ascends x (y ∷ l) a h = go (insert-ascends x l (tail-ascends a) (λ z i. h z (Memᴰ.tail i))) (first x y) refl
      where
        go : Ascending first (insert_by first x l) → (b : Bool) → first x y ≡ b → Ascending first (cond b (x ∷ (y ∷ l)) (y ∷ insert_by first x l))
        go rest true t =
            next (λ z i. ⊎_elim (λ (e : z ≡ y). rw e t) (λ j. leads x y z t (head-before a z j)) (Memᴰ.cases_cons i)) a
        go rest false f =
            let t : first y x ≡ true = rw f at (h y (Memᴰ.head refl)) in
            next (λ z i. ⊎_elim (λ (e : z ≡ x). rw e t) (λ j. head-before a z j) (insert-means x l i)) rest

    grown-ascends : (s l : List A) → Ascending first s → Ascending (either_first first) l
        → ((x : A) → x ∈ l → (y : A) → y ∈ s → either_first first x y ≡ true) → Ascending first (grown s l)
    unfolding fold
    grown-ascends s [] a b h = a
    grown-ascends s (x ∷ l) a b h =
        grown-ascends (insert_by first x s) l (insert-ascends x s a (h x (Memᴰ.head refl))) (tail-ascends b)
        (λ y i z j. ⊎_elim (λ (e : z ≡ x). rw e (other (first x y) (first y x) (head-before b y i))) (λ k. h y (Memᴰ.tail i) z k)
        (insert-means x s j))
      where
        other : (p q : Bool) → (p || q) ≡ true → (q || p) ≡ true
        other true true t = refl
        other true false t = refl
        other false true t = refl
        other false false t = t

    -- of elements of which one of any two stands before the other
    pub order-ascends : (l : List A) → Ascending (either_first first) l → Ascending first (in_order_by first l)
    unfolding in_order_by
    order-ascends l b = grown-ascends [] l nil b (λ x i y j. absurd (Memᴰ.not-nil j))

  -- as many pass a test
  insert-count : (p : A → Bool) (x : A) (l : List A) → length (those p (insert_by first x l)) ≡ length (those p (x ∷ l))
  unfolding insert_by sift
  insert-count p x [] = refl
  insert-count p x (y ∷ l) = go (first x y) (insert-count p x l)
    where
      swap : (a b : Bool) (m : List A) (n : ℕ) → n ≡ length (cond a (x ∷ m) m)
          → cond b (suc n) n ≡ length (cond a (x ∷ cond b (y ∷ m) m) (cond b (y ∷ m) m))
      swap true true m n e = rw e
      swap true false m n e = e
      swap false true m n e = rw e
      swap false false m n e = e

      one : (b : Bool) (m : List A) → length (cond b (y ∷ m) m) ≡ cond b (suc (length m)) (length m)
      one true m = refl
      one false m = refl

      go : (b : Bool) → length (those p (insert_by first x l)) ≡ length (cond (p x) (x ∷ those p l) (those p l))
          → length (those p (cond b (x ∷ (y ∷ l)) (y ∷ insert_by first x l))) ≡ length (those p (x ∷ (y ∷ l)))
      go true e = refl
      go false e = one (p y) (those p (insert_by first x l)) ∙ swap (p x) (p y) (those p l) (length (those p (insert_by first x l))) e

  grown-count : (p : A → Bool) (s l : List A) → length (those p (grown s l)) ≡ length (those p s) + length (those p l)
  unfolding fold sift
  grown-count p s [] = omega arith
  grown-count p s (x ∷ l) = grown-count p (insert_by first x s) l ∙ go (p x) (insert-count p x s)
    where
      go : (b : Bool) → length (those p (insert_by first x s)) ≡ length (cond b (x ∷ those p s) (those p s))
          → length (those p (insert_by first x s)) + length (those p l) ≡ length (those p s) + length (cond b (x ∷ those p l) (those p l))
      go true e = omega arith
      go false e = omega arith

  pub order-count : (p : A → Bool) (l : List A) → length (those p (in_order_by first l)) ≡ length (those p l)
  unfolding in_order_by sift
  order-count p l = let h = grown-count p [] l in omega arith

  -- in an ascending list the place of an element is the number of those before it
  pub place-counts : Strict first → (l : List A) (n : ℕ) (d : A) → Ascending first l → n < length l
      → length (those (λ s. first s (get_or l n d)) l) ≡ n
  unfolding sift
  place-counts strict [] n d a h = absurd (omega arith)
  place-counts strict (x ∷ l) zero d a h =
      ap length (ap (λ b. cond b (x ∷ those (λ s. first s x) l) (those (λ s. first s x) l)) (itself x)
      ∙ those-none (λ s. first s x) l (λ z i. strict x z (head-before a z i)))
    where
      itself : (y : A) → first y y ≡ false
      itself y = decide (first y y) (λ t. never-itself strict y t) (λ f. f)
  place-counts strict (x ∷ l) (suc n) d a h =
      rw (head-before a (get_or l n d) (get_in l n (omega arith))) (ap suc (place-counts strict l n d (tail-ascends a) (omega arith)))
    where
      get_in : (m : List A) (k : ℕ) → k < length m → get_or m k d ∈ m
      get_in [] k b = absurd (omega arith)
      get_in (y ∷ m) zero b = Memᴰ.head refl
      get_in (y ∷ m) (suc k) b = Memᴰ.tail (get_in m k (omega arith))
