-- Numbers in order, and the least from a bound on: taking the least again and again goes through them in order.
use mathlib.Core.Path.{◌≡◌, refl, ap, sym, ◌∙◌}
use mathlib.Core.Bool.{true, false, ◌&&◌}
use mathlib.Core.Logic.{◌⊎◌, inl, inr, ⊎_elim}
use mathlib.Core.List.Memᴰ
use mathlib.Core.List.{List, [], ◌∷◌}
use Prim.Native.Nat.{ℕ, ◌+◌, ◌≤◌, ◌<◌}
use native.Mathlib.Omega.{arith}
use lib.Dec.{eqb, ltb, leb}
use borrow.Author.Tests.{ltb-true, ltb-false, leb-true, leb-false, eqb-true, eqb-false, lt-ltb, le-leb, lt-leb}
use Rattle.listlaws.specs.Order.{◌∈◌, Ascending, nil, next, by}
use Rattle.listlaws.specs.Fold.{fold}
use Rattle.listlaws.specs.Sift.{sift, those}
use Rattle.listlaws.proofs.Orders.{head-before, tail-ascends}
use Rattle.listlaws.proofs.Those.{those-same}
use Rattle.scan.specs.Each.{every}
use Rattle.scan.proofs.Eachs.{decide, every-at, both_left, both_right}
use Rattle.mapimage.specs.Sorted.{insert, in_order}
use Rattle.mapimage.specs.Least.{lesser, least_from}

-- members of what is put in order
pub inserted : (x : ℕ) (l : List ℕ) (z : ℕ) → z ∈ insert x l → (z ≡ x) ⊎ (z ∈ l)
unfolding insert
inserted x [] z i = Memᴰ.cases_cons i
inserted x (y ∷ l) z i =
    decide (ltb x y)
    (λ a. Memᴰ.cases_cons (rw a at i))
    (λ a. decide (eqb x y)
    (λ b. inr (rw (a, b) at i))
    (λ b. ⊎_elim (λ (q : z ≡ y). inr (Memᴰ.head q)) (λ j. ⊎_elim (λ q. inl q) (λ k. inr (Memᴰ.tail k)) (inserted x l z j))
    (Memᴰ.cases_cons (rw (a, b) at i))))

insert-keeps : (x : ℕ) (l : List ℕ) (z : ℕ) → z ∈ l → z ∈ insert x l
unfolding insert
insert-keeps x [] z i = absurd (Memᴰ.not-nil i)
insert-keeps x (y ∷ l) z i =
    decide (ltb x y)
    (λ a. rw a (Memᴰ.tail i))
    (λ a. decide (eqb x y)
    (λ b. rw (a, b) i)
    (λ b. rw (a, b) (⊎_elim (λ (q : z ≡ y). Memᴰ.head q) (λ j. Memᴰ.tail (insert-keeps x l z j)) (Memᴰ.cases_cons i))))

insert-has : (x : ℕ) (l : List ℕ) → x ∈ insert x l
unfolding insert
insert-has x [] = Memᴰ.head refl
insert-has x (y ∷ l) =
    decide (ltb x y)
    (λ a. rw a (Memᴰ.head refl))
    (λ a. decide (eqb x y)
    (λ b. rw (a, b) (Memᴰ.head (eqb-true x y b)))
    (λ b. rw (a, b) (Memᴰ.tail (insert-has x l))))

insert-ascends : (x : ℕ) (l : List ℕ) → Ascending (by (λ n. n)) l → Ascending (by (λ n. n)) (insert x l)
unfolding insert
insert-ascends x [] a = next (λ y i. absurd (Memᴰ.not-nil i)) nil
insert-ascends x (y ∷ l) a =
    decide (ltb x y)
    (λ p. rw p (next (λ z i. ⊎_elim (λ (q : z ≡ y). ap (ltb x) q ∙ p) (λ j. lt-ltb x z (below p z j)) (Memᴰ.cases_cons i)) a))
    (λ p. decide (eqb x y)
    (λ b. rw (p, b) a)
    (λ b. rw (p, b) (next (λ z i. ⊎_elim (λ (q : z ≡ x). ap (ltb y) q ∙ lt-ltb y x (above p b)) (λ j. head-before a z j) (inserted x l z i))
    (insert-ascends x l (tail-ascends a)))))
  where
    below : ltb x y ≡ true → (z : ℕ) → z ∈ l → x < z
    below p z j = let h = ltb-true x y p in let k = ltb-true y z (head-before a z j) in omega arith

    above : ltb x y ≡ false → eqb x y ≡ false → y < x
    above p b = let h = ltb-false x y p in let k = eqb-false x y b in omega arith

order_from : (s l : List ℕ) → Ascending (by (λ n. n)) s → Ascending (by (λ n. n)) (fold (λ s x. insert x s) s l)
unfolding fold
order_from s [] a = a
order_from s (x ∷ l) a = order_from (insert x s) l (insert-ascends x s a)

has-from : (s l : List ℕ) (z : ℕ) → (z ∈ s) ⊎ (z ∈ l) → z ∈ fold (λ s x. insert x s) s l
unfolding fold
has-from s [] z i = ⊎_elim (λ j. j) (λ j. absurd (Memᴰ.not-nil j)) i
has-from s (x ∷ l) z i =
    has-from (insert x s) l z
    (⊎_elim (λ j. inl (insert-keeps x s z j)) (λ j. ⊎_elim (λ (q : z ≡ x). inl (rw q (insert-has x s))) (λ k. inr k) (Memᴰ.cases_cons j)) i)

from-has : (s l : List ℕ) (z : ℕ) → z ∈ fold (λ s x. insert x s) s l → (z ∈ s) ⊎ (z ∈ l)
unfolding fold
from-has s [] z i = inl i
from-has s (x ∷ l) z i =
    ⊎_elim (λ j. ⊎_elim (λ (q : z ≡ x). inr (Memᴰ.head q)) (λ k. inl k) (inserted x s z j)) (λ j. inr (Memᴰ.tail j))
    (from-has (insert x s) l z i)

module _ (l : List ℕ) where
  pub order-ascends : Ascending (by (λ n. n)) (in_order l)
  unfolding in_order
  order-ascends = order_from [] l nil

  pub order-has : (z : ℕ) → z ∈ l → z ∈ in_order l
  unfolding in_order
  order-has z i = has-from [] l z (inr i)

  pub order-from-list : (z : ℕ) → z ∈ in_order l → z ∈ l
  unfolding in_order
  order-from-list z i = ⊎_elim (λ j. absurd (Memᴰ.not-nil j)) (λ j. j) (from-has [] l z i)

-- the least from `low` on
module _ (low : ℕ) where
  pub least-most : (m : ℕ) (l : List ℕ) → least_from low m l ≤ m
  unfolding least_from fold
  least-most m [] = omega arith
  least-most m (x ∷ l) = let h = least-most (lesser low m x) l in let k = one m x in omega arith
    where
      one : (m x : ℕ) → lesser low m x ≤ m
      one m x = decide (leb low x && ltb x m) (λ t. rw t (let h = ltb-true x m (both_right (leb low x) (ltb x m) t) in omega arith))
          (λ f. rw f (omega arith))

  pub least-least : (m : ℕ) (l : List ℕ) (x : ℕ) → x ∈ l → low ≤ x → least_from low m l ≤ x
  unfolding least_from fold
  least-least m [] x i h = absurd (Memᴰ.not-nil i)
  least-least m (y ∷ l) x i h =
      ⊎_elim
      (λ (q : x ≡ y). let b = least-most (lesser low m y) l in let k = one y (rw q at h) in omega arith)
      (λ j. least-least (lesser low m y) l x j h)
      (Memᴰ.cases_cons i)
    where
      one : (y : ℕ) → low ≤ y → lesser low m y ≤ y
      one y h =
          decide (ltb y m)
          (λ t. rw (le-leb low y h, t) (omega arith))
          (λ f. rw (le-leb low y h, f) (ltb-false y m f))

  pub least-one : (m : ℕ) (l : List ℕ) → (least_from low m l ≡ m) ⊎ ((least_from low m l ∈ l) × (low ≤ least_from low m l))
  unfolding least_from fold
  least-one m [] = inl refl
  least-one m (x ∷ l) =
      ⊎_elim
      (λ e. decide (leb low x && ltb x m)
      (λ t. let q : fold (lesser low) (lesser low m x) l ≡ x = e ∙ rw t in
      inr (Memᴰ.head q, rw q (leb-true low x (both_left (leb low x) (ltb x m) t))))
      (λ f. inl (e ∙ rw f)))
      (λ p. inr (Memᴰ.tail p.0, p.1))
      (least-one (lesser low m x) l)

-- the numbers from `low` on, in order: the least, and those above it
split-least : (low m : ℕ) (w : List ℕ) → Ascending (by (λ n. n)) w → m ∈ w → low ≤ m → ((x : ℕ) → x ∈ w → low ≤ x → m ≤ x)
    → those (leb low) w ≡ m ∷ those (leb (m + 1)) w
unfolding sift
split-least low m [] a i h f = absurd (Memᴰ.not-nil i)
split-least low m (y ∷ w) a i h f =
    ⊎_elim
    (λ (q : m ≡ y).
    rw (le-leb low y (omega arith), lt-leb (m + 1) y (omega arith), q)
    (ap (λ t. y ∷ t) (those-same (leb low) (leb (m + 1)) w (λ x j. let k = ltb-true y x (head-before a x j) in
    le-leb low x (omega arith) ∙ sym (le-leb (m + 1) x (omega arith))))))
    (λ j. let k = ltb-true y m (head-before a m j) in
    rw (lt-leb low y (passed k), lt-leb (m + 1) y (omega arith)) (split-least low m w (tail-ascends a) j h (λ x e. f x (Memᴰ.tail e))))
    (Memᴰ.cases_cons i)
  where
    passed : y < m → y < low
    passed k = decide (leb low y) (λ t. absurd (let z = f y (Memᴰ.head refl) (leb-true low y t) in omega arith)) (λ n. leb-false low y n)

none_left : (low : ℕ) (w : List ℕ) → ((x : ℕ) → x ∈ w → x < low) → those (leb low) w ≡ []
unfolding sift
none_left low [] f = refl
none_left low (y ∷ w) f = rw (lt-leb low y (f y (Memᴰ.head refl))) (none_left low w (λ x i. f x (Memᴰ.tail i)))

module _ (end low : ℕ) (l : List ℕ) (below : every (λ x. ltb x end) l ≡ true) where
  -- there is one left
  pub next-least : least_from low end l < end → those (leb low) (in_order l)
      ≡ least_from low end l ∷ those (leb (least_from low end l + 1)) (in_order l)
  next-least h =
      ⊎_elim
      (λ e. absurd (omega arith))
      (λ p. split-least low (least_from low end l) (in_order l) (order-ascends l) (order-has l _ p.0) p.1
      (λ x i k. least-least low end l x (order-from-list l x i) k))
      (least-one low end l)

  -- there is none left
  pub no-least : end ≤ least_from low end l → those (leb low) (in_order l) ≡ []
  no-least h =
      none_left low (in_order l)
      (λ x i. let j = order-from-list l x i in
      decide (leb low x)
      (λ t. absurd (let k = least-least low end l x j (leb-true low x t) in let b = ltb-true x end (every-at (λ x. ltb x end) l x below j) in
      omega arith))
      (λ n. leb-false low x n))

pub from_start : (w : List ℕ) → those (leb 0) w ≡ w
unfolding sift
from_start [] = refl
from_start (x ∷ w) = rw (le-leb 0 x (omega arith)) (ap (λ t. x ∷ t) (from_start w))

-- the least of numbers goes up with the bound
pub least_above : (low m : ℕ) (l : List ℕ) → low ≤ m → low ≤ least_from low m l
least_above low m l h = ⊎_elim (λ e. rw e h) (λ p. p.1) (least-one low m l)
