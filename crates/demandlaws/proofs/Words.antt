-- From an answer to its word: the number in it, what a refusal leaves, and what 0 writes.
use mathlib.Core.Path.{◌≡◌, refl, ap, sym, ◌∙◌}
use mathlib.Core.Bool.{Bool, true, false, cond, ◌&&◌}
use mathlib.Core.List.{List, [], ◌∷◌, ◌++◌}
use Prim.Native.Nat.{ℕ, ◌+◌, ◌*◌, ◌/◌, ◌%◌, ◌^◌, ◌<◌}
use native.Mathlib.Omega.{arith}
use lib.Dec.{eqb, ltb}
use lib.ListN.{length}
use borrow.Author.Tests.{eqb-true, eqb-false, ne_eqb}
use Rattle.scan.proofs.Eachs.{decide}
use Rattle.answers.specs.Answer.{Answer, Answered, first_of, number_of, word_of, out_of, short_of, carried_of}
use Rattle.demandlaws.specs.Rows.{Row, row, decided, has_not, ByTable}
use Rattle.demandlaws.specs.Tables.{short_rows}
use Rattle.demandlaws.specs.Demands.{number_in, length_in, Writes, TellsOnly, Carries}
use Rattle.demandlaws.proofs.Tables.{part, by-table, decided-not}

-- a table that has no row left
alone : (n : ℕ) → first_of (n ∷ []) ≡ n
unfolding first_of
alone n = decide (eqb n 0) (λ t. rw t (sym (eqb-true n 0 t))) (λ f. rw f)

-- "Order: first image, then second, then .., then 10": the rows of an answer's parts, one part after the other
module _ (a : Answer) (entry bytes : List ℕ) (first second own : List Row) (p : a.first ≡ decided first) (q : a.second ≡ decided second)
    (s : a.own ≡ decided own) (h : has_not 0 first ≡ true) (i : has_not 0 second ≡ true) (j : has_not 0 own ≡ true) where
  abbrev shorter : List Row
  shorter = short_rows bytes entry

  short-number : a.bytes ≡ bytes → first_of (short_of a.bytes entry ∷ []) ≡ decided shorter
  unfolding decided
  short-number e = alone (short_of a.bytes entry) ∙ ap (λ b. short_of b entry) e

  -- a call with an output: what it would write, where nothing is refused before
  pub number-rows : (a.own ≡ 0 → a.bytes ≡ bytes) → number_of a entry ≡ decided (first ++ (second ++ (own ++ shorter)))
  unfolding number_of first_of
  number-rows e =
      rw (p, q, s)
      (part first (second ++ (own ++ shorter)) _ h
      (λ y. part second (own ++ shorter) _ i
      (λ z. part own shorter _ j
      (λ o. short-number (e (s ∙ o))))))

-- a number that is not of 32 bits and more
in-word : (n l : ℕ) → l < 2 ^ 32 → (n * 2 ^ 32 + l) / 2 ^ 32 ≡ n
in-word n l h = omega (arith, h)

module _ (a : Answer) (entry exit : List ℕ) (word : ℕ) (rows : List Row) (bytes : List ℕ) (n : number_of a entry ≡ decided rows)
    (fits : number_of a entry ≡ 0 → (a.bytes ≡ bytes) × (length bytes < 2 ^ 32)) (w : Answered a entry exit word) where
  writes-zero : number_of a entry ≡ 0 → Writes rows bytes entry exit word
  unfolding word_of out_of
  writes-zero z =
      let f = fits z in
      let e : word ≡ length bytes = w.packed ∙ rw (z, f.0) (omega arith) in
      let l : word < 2 ^ 32 = omega (arith, e, f.1) in
      let k : number_in word ≡ 0 = omega (arith, l) in
      record {
        number = by-table rows (k ∙ (sym z ∙ n));
        refused = λ r. absurd (r k);
        done = λ d. (omega (arith, e, l), w.left ∙ rw (z, f.0));
      }

  writes-other : (number_of a entry ≡ 0 → ⊥) → Writes rows bytes entry exit word
  unfolding word_of out_of
  writes-other z =
      let t = ne_eqb (number_of a entry) 0 z in
      let e : word ≡ number_of a entry * 2 ^ 32 + 0 = w.packed ∙ rw t in
      let k : number_in word ≡ number_of a entry = omega (arith, e) in
      record {
        number = by-table rows (k ∙ n);
        refused = λ r. (omega (arith, e), w.left ∙ rw t);
        done = λ d. absurd (z (sym k ∙ d));
      }

  pub writes-rows : Writes rows bytes entry exit word
  writes-rows =
      decide (eqb (number_of a entry) 0) (λ t. writes-zero (eqb-true (number_of a entry) 0 t))
      (λ f. writes-other (eqb-false (number_of a entry) 0 f))

-- a call that only tells
module _ (a : Answer) (rows : List Row) (n : number_of a [] ≡ decided rows) (z : length a.bytes ≡ 0) where
  pub tells-rows : {word : ℕ} → word ≡ word_of a [] → TellsOnly rows word
  unfolding word_of
  tells-rows {word} w =
      let e : word ≡ number_of a [] * 2 ^ 32 = w ∙ decide (eqb (number_of a []) 0) (λ t. rw (t, z) (omega arith)) (λ f. rw f (omega arith)) in
      record { number = by-table rows (omega (arith, e) ∙ n); bare = omega (arith, e) }

-- a carried number: its call's own number stands in no image's rows
module _ (a : Answer) (with n : ℕ) (first second own : List Row) (p : a.first ≡ decided first) (q : a.second ≡ decided second)
    (s : a.own ≡ decided own) (h : has_not 0 first ≡ true) (i : has_not 0 second ≡ true) (j : has_not with first ≡ true)
    (k : has_not with second ≡ true)
    (z : eqb with 0 ≡ false) where
  carried-flag : (x y : Bool) → eqb (decided first) 0 ≡ x → eqb (decided second) 0 ≡ y
      → (eqb (cond x (cond y 0 (decided second)) (decided first)) 0 && eqb (decided own) with)
      ≡ eqb (cond x (cond y (decided own) (decided second)) (decided first)) with
  carried-flag true true e f = refl
  carried-flag true false e f = rw (f, ne_eqb (decided second) with (decided-not with second k z))
  carried-flag false y e f = rw (e, ne_eqb (decided first) with (decided-not with first j z))

  pub carries-rows : {word : ℕ} → word ≡ carried_of with a n → Carries (first ++ (second ++ own)) with n word
  unfolding carried_of first_of
  carries-rows w =
      let parts = part first (second ++ own) _ h (λ y. part second own (decided own) i (λ o. refl)) in
      w ∙ rw (p, q, s, ← parts) (ap (λ b. cond b n 0) (carried-flag (eqb (decided first) 0) (eqb (decided second) 0) refl refl))
