-- Two lists that ascend by a number, walked side by side: what a look into the one for an element of the other finds, told where the walk stands.
use mathlib.Core.Path.{◌≡◌, refl, ap, sym, ◌∙◌, subst}
use mathlib.Core.Logic.{⊎_elim}
use mathlib.Core.List.Memᴰ
use mathlib.Core.List.{List, ◌∷◌}
use Prim.Native.Nat.{ℕ, ◌+◌, ◌≤◌, ◌<◌}
use native.Mathlib.Omega.{arith}
use borrow.Author.Tests.{ltb-true, eq-eqb, ne_eqb}
use lib.Dec.{eqb}
use lib.ListN.{length, drop, get_or}
use Rattle.listlaws.specs.First.{first_in}
use Rattle.listlaws.specs.Order.{◌∈◌, Ascending, by}
use Rattle.listlaws.proofs.Orders.{tail-ascends, head-before}
use Rattle.listlaws.proofs.Firsts.{first-none}
use Rattle.listlaws.proofs.SliceRests.{drop-step, drop-end}

-- below the first of an ascending list is below all of it
below : {A : Type 0} (rank : A → ℕ) {k : ℕ} {y : A} {m : List A} → Ascending (by rank) (y ∷ m) → k < rank y → (w : A) → w ∈ (y ∷ m) → k < rank w
below rank {k} {y} a h w i =
    ⊎_elim (λ (e : w ≡ y). rw e h) (λ j. let b = ltb-true (rank y) (rank w) (head-before a w j) in omega arith) (Memᴰ.cases_cons i)

-- `give` says what is found of an element with the number, and z that there is none
module _ {A R : Type 0} (rank : A → ℕ) (give : A → R) (z : R) where
  abbrev pub look : List A → ℕ → R
  look l k = first_in (λ x. eqb (rank x) k) give z l

  look-past : (x : A) (l : List A) (k : ℕ) → rank x < k → look (x ∷ l) k ≡ look l k
  unfolding first_in
  look-past x l k h = rw (ne_eqb (rank x) k (λ e. omega arith))

  look-here : (x : A) (l : List A) (k : ℕ) → rank x ≡ k → look (x ∷ l) k ≡ give x
  unfolding first_in
  look-here x l k e = rw (eq-eqb (rank x) k e)

  look_none : {y : A} {m : List A} {k : ℕ} → Ascending (by rank) (y ∷ m) → k < rank y → look (y ∷ m) k ≡ z
  look_none {y} {m} {k} a h =
      first-none (λ x. eqb (rank x) k) give z (y ∷ m) (λ w i. ne_eqb (rank w) k (λ e. let b = below rank a h w i in omega arith))

  -- what is left of the first list, l, answers for all that is left of the second, m, as the whole of it does
  pub record Answers (whole l m : List A) : Type 0 where
    pub first-rises : Ascending (by rank) l
    pub second-rises : Ascending (by rank) m
    pub left : (y : A) → y ∈ m → look whole (rank y) ≡ look l (rank y)

  -- the second list's element is done
  next : {whole l m : List A} {y : A} → Answers whole l (y ∷ m) → Answers whole l m
  next g = record {
    first-rises = g.first-rises;
    second-rises = tail-ascends g.second-rises;
    left = λ w i. g.left w (Memᴰ.tail i);
  }

  -- the first list's element is below all that is left of the second
  past : {whole l m : List A} {x : A} → Answers whole (x ∷ l) m → ((w : A) → w ∈ m → rank x < rank w) → Answers whole l m
  past {l = l} {x = x} g h = record {
    first-rises = tail-ascends g.first-rises;
    second-rises = g.second-rises;
    left = λ w i. g.left w i ∙ look-past x l (rank w) (h w i);
  }

  found : {whole l m : List A} {x y : A} → Answers whole (x ∷ l) (y ∷ m) → rank x ≡ rank y → look whole (rank y) ≡ give x
  found {l = l} {x = x} {y = y} g e = g.left y (Memᴰ.head refl) ∙ look-here x l (rank y) e

  missed : {whole l m : List A} {x y : A} → Answers whole (x ∷ l) (y ∷ m) → rank y < rank x → look whole (rank y) ≡ z
  missed {y = y} g h = g.left y (Memᴰ.head refl) ∙ look_none g.first-rises h

  -- i of the n used places of xs are passed, and j of the m of ys
  pub record Beside (xs : List A) (i : ℕ) (ys : List A) (j : ℕ) : Type 0 where
    pub answers : Answers xs (drop i xs) (drop j ys)

module _ {A R : Type 0} {rank : A → ℕ} {give : A → R} {z : R} {xs : List A} {ys : List A} where
  pub beside-start : Ascending (by rank) xs → Ascending (by rank) ys → Beside rank give z xs 0 ys 0
  beside-start a b = record { answers = record { first-rises = a; second-rises = b; left = λ y i. refl } }

  module _ {i j : ℕ} (d : A) (g : Beside rank give z xs i ys j) (k : j < length ys) where
    opened : Answers rank give z xs (drop i xs) (get_or ys j d ∷ drop (j + 1) ys)
    opened = subst (λ (l : List A). Answers rank give z xs (drop i xs) l) (drop-step ys j d k) g.answers

    pub beside-next : Beside rank give z xs i ys (j + 1)
    beside-next = record { answers = next rank give z opened }

    -- the first list is used up
    pub beside_end : length xs ≤ i → look rank give z xs (rank (get_or ys j d)) ≡ z
    unfolding first_in
    beside_end h =
        opened.left (get_or ys j d) (Memᴰ.head refl) ∙ ap (λ l. look rank give z l (rank (get_or ys j d))) (drop-end xs i h)

    module _ (h : i < length xs) where
      heads : Answers rank give z xs (get_or xs i d ∷ drop (i + 1) xs) (get_or ys j d ∷ drop (j + 1) ys)
      heads = subst (λ (l : List A). Answers rank give z xs l (get_or ys j d ∷ drop (j + 1) ys)) (drop-step xs i d h) opened

      pub beside-past : rank (get_or xs i d) < rank (get_or ys j d) → Beside rank give z xs (i + 1) ys j
      beside-past e = record {
        answers =
            subst (λ (l : List A). Answers rank give z xs (drop (i + 1) xs) l) (sym (drop-step ys j d k))
            (past rank give z heads (below rank heads.second-rises e));
      }

      pub beside-both : rank (get_or xs i d) ≡ rank (get_or ys j d) → Beside rank give z xs (i + 1) ys (j + 1)
      beside-both e = record {
        answers =
            past rank give z (next rank give z heads) (λ w q. let b = ltb-true (rank (get_or ys j d)) (rank w)
            (head-before heads.second-rises w q) in omega arith);
      }

      pub beside-found : rank (get_or xs i d) ≡ rank (get_or ys j d) → look rank give z xs (rank (get_or ys j d)) ≡ give (get_or xs i d)
      beside-found e = found rank give z heads e

      pub beside-missed : rank (get_or ys j d) < rank (get_or xs i d) → look rank give z xs (rank (get_or ys j d)) ≡ z
      beside-missed e = missed rank give z heads e
