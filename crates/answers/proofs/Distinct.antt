-- Numbers of which none comes twice: putting them in order loses none. The keys of waiting removals are such numbers.
use mathlib.Core.Path.{◌≡◌, refl, ap, ◌∙◌}
use mathlib.Core.Logic.{⊎_elim}
use mathlib.Core.List.Memᴰ
use mathlib.Core.List.{List, [], ◌∷◌, ◌++◌, map}
use Prim.Native.Nat.{ℕ, suc, ◌+◌, ◌*◌, ◌%◌, ◌≤◌}
use native.Mathlib.Nat.{zero-add}
use native.Mathlib.Omega.{arith}
use lib.Dec.{eqb, ltb}
use lib.ListN.{length}
use borrow.Author.Tests.{ltb-true, eqb-true}
use Rattle.listlaws.specs.Order.{◌∈◌, Ascending, next, by}
use Rattle.listlaws.specs.Fold.{fold}
use Rattle.scan.proofs.Eachs.{decide}
use Rattle.removals.specs.declared.Removal.{Removal}
use Rattle.removals.specs.Model.{listed_in}
use Rattle.mapimage.specs.Sorted.{insert, in_order}
use Rattle.mapimage.specs.MapImage.{flat_from, key_number, key_numbers}
use Rattle.mapimage.proofs.Sorts.{inserted}

pub data Distinct : List ℕ → Type 0 where
  no_number : Distinct []
  one_more : {x : ℕ} {l : List ℕ} → (x ∈ l → ⊥) → Distinct l → Distinct (x ∷ l)

length-insert : (x : ℕ) (l : List ℕ) → (x ∈ l → ⊥) → length (insert x l) ≡ suc (length l)
unfolding insert
length-insert x [] h = refl
length-insert x (y ∷ l) h =
    decide (ltb x y) (λ a. rw a) (λ a. decide (eqb x y) (λ b. absurd (h (Memᴰ.head (eqb-true x y b))))
    (λ b. rw (a, b) (ap suc (length-insert x l (λ i. h (Memᴰ.tail i))))))

from : (s l : List ℕ) → Distinct l → ((x : ℕ) → x ∈ l → x ∈ s → ⊥) → length (fold (λ s x. insert x s) s l) ≡ length s + length l
unfolding fold
from s [] d h = omega arith
from s (x ∷ l) (one_more n d) h =
    let e = length-insert x s (h x (Memᴰ.head refl)) in
    let p = from (insert x s) l d (λ z i j. ⊎_elim (λ (q : z ≡ x). n (rw q at i)) (λ k. h z (Memᴰ.tail i) k) (inserted x s z j)) in
    omega arith

pub length-order : (l : List ℕ) → Distinct l → length (in_order l) ≡ length l
unfolding in_order
length-order l d = from [] l d (λ x i j. absurd (Memᴰ.not-nil j)) ∙ zero-add (length l)

append-distinct : (l : List ℕ) {m : List ℕ} → Distinct l → Distinct m → ((x : ℕ) → x ∈ l → x ∈ m → ⊥) → Distinct (l ++ m)
append-distinct [] c d h = d
append-distinct (x ∷ l) (one_more n c) d h =
    one_more (λ i. ⊎_elim n (λ j. h x (Memᴰ.head refl) j) (Memᴰ.append_cases l i))
    (append-distinct l c d (λ z i j. h z (Memᴰ.tail i) j))

-- a key's number tells its index
module _ (index : ℕ) where
  number-has : (keys : List ℕ) (z : ℕ) → z ∈ map (key_number index) keys → (k : ℕ) × (k ∈ keys) × (z ≡ k * 256 + index)
  number-has [] z i = absurd (Memᴰ.not-nil i)
  number-has (k ∷ l) z i =
      ⊎_elim (λ (q : z ≡ k * 256 + index). (k, Memᴰ.head refl, q)) (λ j. let (h, m, q) = number-has l z j in (h, Memᴰ.tail m, q))
      (Memᴰ.cases_cons i)

  numbers-distinct : (keys : List ℕ) → Ascending (by (λ k. k)) keys → Distinct (map (key_number index) keys)
  numbers-distinct [] a = no_number
  numbers-distinct (k ∷ l) (next b a) =
      one_more (λ i. let (h, m, q) = number-has l (k * 256 + index) i in let t = ltb-true k h (b h m) in omega arith) (numbers-distinct l a)

later-index : (i : ℕ) (l : List Removal) (z : ℕ) → i + length l ≤ 256 → z ∈ flat_from key_numbers i l → i ≤ z % 256
unfolding flat_from
later-index i [] z f m = absurd (Memᴰ.not-nil m)
later-index i (r ∷ l) z f m =
    ⊎_elim (λ j. let (k, n, q) = number-has i (listed_in r) z j in omega arith) (λ j. let h = later-index (i + 1) l z (omega arith) j in omega arith)
    (Memᴰ.append_cases (key_numbers i r) m)

pub keys-distinct : (i : ℕ) (l : List Removal) → i + length l ≤ 256 → ((r : Removal) → r ∈ l → Ascending (by (λ k. k)) (listed_in r))
    → Distinct (flat_from key_numbers i l)
unfolding flat_from
keys-distinct i [] f a = no_number
keys-distinct i (r ∷ l) f a =
    append-distinct (key_numbers i r) (numbers-distinct i (listed_in r) (a r (Memᴰ.head refl)))
    (keys-distinct (i + 1) l (omega arith) (λ w m. a w (Memᴰ.tail m)))
    (λ z m n. let (k, j, q) = number-has i (listed_in r) z m in let h = later-index (i + 1) l z (omega arith) n in omega arith)
