-- Laws of the elements whose marks are set: which they are, their order, their number, and a test of them told mark by mark.
use mathlib.Core.Path.{◌≡◌, refl, ap, sym, ◌∙◌}
use mathlib.Core.Bool.{Bool, true, false, cond, ◌&&◌}
use mathlib.Core.List.{List, [], ◌∷◌}
use Prim.Native.Nat.{ℕ, zero, suc, ◌+◌, ◌≤◌, ◌<◌}
use native.Mathlib.Numerals.{add-one}
use native.Mathlib.Omega.{arith}
use lib.ListN.{length, take, drop, get_or, replicate}
use lib.Seq.{drop-cons}
use Rattle.listlaws.specs.Sift.{sift, those}
use Rattle.listlaws.proofs.Rests.{drop-end}
use Rattle.marks.specs.Marks.{picked, marks_set}

module _ {A : Type 0} where
  pub picked-nil : (bs : List Bool) → picked {A = A} bs [] ≡ []
  unfolding picked
  picked-nil [] = refl
  picked-nil (b ∷ bs) = refl

  -- all marks set pick all
  pub picked_all : (l : List A) (n : ℕ) → length l ≤ n → picked (replicate n true) l ≡ l
  unfolding picked
  picked_all [] n h = picked-nil (replicate n true)
  picked_all (x ∷ l) zero h = absurd (omega arith)
  picked_all (x ∷ l) (suc n) h = ap (λ m. x ∷ m) (picked_all l n (omega arith))

  -- as many are picked as marks are set, of the marks that have an element
  pub length-picked : (bs : List Bool) (l : List A) → length (picked bs l) ≡ marks_set (take (length l) bs)
  unfolding picked sift
  length-picked [] [] = refl
  length-picked [] (x ∷ l) = refl
  length-picked (b ∷ bs) [] = refl
  length-picked (true ∷ bs) (x ∷ l) = ap suc (length-picked bs l)
  length-picked (false ∷ bs) (x ∷ l) = length-picked bs l

  pub picked-short : (bs : List Bool) (l : List A) → length (picked bs l) ≤ length l
  unfolding picked
  picked-short [] l = omega arith
  picked-short (b ∷ bs) [] = omega arith
  picked-short (true ∷ bs) (x ∷ l) = omega (arith, picked-short bs l)
  picked-short (false ∷ bs) (x ∷ l) = omega (arith, picked-short bs l)

  -- those that pass a test, told by marks that are set where both say so
  pub picked-those : (p : A → Bool) (d : A) (cs bs : List Bool) (l : List A) → length l ≤ length cs → length l ≤ length bs
      → ((k : ℕ) → k < length l → get_or cs k false ≡ (get_or bs k false && p (get_or l k d)))
      → picked cs l ≡ those p (picked bs l)
  unfolding picked sift
  picked-those p d cs bs [] h k f = picked-nil cs ∙ sym (ap (those p) (picked-nil bs))
  picked-those p d [] bs (x ∷ l) h k f = absurd (omega arith)
  picked-those p d (c ∷ cs) [] (x ∷ l) h k f = absurd (omega arith)
  picked-those p d (c ∷ cs) (b ∷ bs) (x ∷ l) h k f = go c b (f 0 (omega arith))
      (picked-those p d cs bs l (omega arith) (omega arith) (λ i q. f (suc i) (omega arith)))
    where
      go : (c b : Bool) → c ≡ (b && p x) → picked cs l ≡ those p (picked bs l)
          → cond c (x ∷ picked cs l) (picked cs l) ≡ those p (cond b (x ∷ picked bs l) (picked bs l))
      go c true e q = rw (e, q)
      go c false e q = rw e q

  -- at each place an element is picked or not
  module _ (bs : List Bool) (l : List A) (i : ℕ) (d : A) (h : i < length bs) (k : i < length l) where
    pub picked-yes : get_or bs i false ≡ true → picked (drop i bs) (drop i l) ≡ get_or l i d ∷ picked (drop (i + 1) bs) (drop (i + 1) l)
    unfolding picked
    picked-yes t = rw (add-one, drop-cons bs i false h, drop-cons l i d k, t)

    pub picked-no : get_or bs i false ≡ false → picked (drop i bs) (drop i l) ≡ picked (drop (i + 1) bs) (drop (i + 1) l)
    unfolding picked
    picked-no t = rw (add-one, drop-cons bs i false h, drop-cons l i d k, t)

  pub picked-end : (bs : List Bool) (l : List A) (i : ℕ) → length l ≤ i → picked (drop i bs) (drop i l) ≡ []
  picked-end bs l i h = ap (picked (drop i bs)) (drop-end l i h) ∙ picked-nil (drop i bs)
