-- The word of castribba_apply with an output of the longest size: a refusal's, or the length of the image.
use mathlib.Core.Path.{◌≡◌, refl, ap, sym, ◌∙◌}
use mathlib.Core.List.{List, [], ◌∷◌}
use Prim.Native.Nat.{ℕ, ◌*◌, ◌-◌, ◌^◌, ◌≤◌, ◌<◌}
use native.Mathlib.Omega.{arith}
use borrow.Author.Tests.{eq-eqb, ne_eqb, eqb-true, eqb-false, ltb-false}
use lib.Dec.{eqb, ltb}
use lib.ListN.{length, take, drop}
use lib.Seq.{take_at}
use Rattle.scan.proofs.Eachs.{decide}
use Rattle.mapimage.specs.MapImage.{map_longest}
use Rattle.records.specs.Bytes.{placed}
use Rattle.records.specs.Writing.{Wrote}
use Rattle.records.proofs.Placing.{placed_first}
use Rattle.answers.specs.Answer.{Answer, Answered, first_of, number_of, word_of, out_of, short_of}
use Rattle.promises.specs.Calls.{apply_answer}
use Rattle.promises.specs.CatchUp.{apply_number}
use Rattle.promises.proofs.Outcomes.{apply-number}
use Rattle.catchup.specs.Walking.{Stepped}

-- an answer that is done has room
first-zero : (n : ℕ) (l : List ℕ) → first_of (n ∷ l) ≡ 0 → first_of l ≡ 0
unfolding first_of
first-zero n l e = decide (eqb n 0) (λ t. rw t at e) (λ f. absurd (eqb-false n 0 f (rw f at e)))

last-zero : (n : ℕ) → first_of (n ∷ []) ≡ 0 → n ≡ 0
unfolding first_of
last-zero n e = decide (eqb n 0) (λ t. eqb-true n 0 t) (λ f. absurd (eqb-false n 0 f (rw f at e)))

not_short : (bytes o : List ℕ) → short_of bytes o ≡ 0 → length bytes ≤ length o
not_short bytes o e = decide (ltb (length o) (length bytes)) (λ t. let z : ◌≡◌ {A = ℕ} 10 0 = rw t at e in omega arith) (λ f. ltb-false _ _ f)

done-fits : (a : Answer) (o : List ℕ) → number_of a o ≡ 0 → length a.bytes ≤ length o
unfolding number_of
done-fits a o e = not_short a.bytes o (last-zero _ (first-zero a.own _ (first-zero a.second _ (first-zero a.first _ e))))

-- both kinds of word
module _ (a : Answer) (o : List ℕ) (short : length o ≡ map_longest) {w : ℕ} (e : w ≡ word_of a o) where
  done-word : number_of a o ≡ 0 → w ≡ length a.bytes
  unfolding word_of
  done-word z = let f = rw z at e in omega (arith, f)

  refused-word : (number_of a o ≡ 0 → ⊥) → w ≡ number_of a o * 2 ^ 32
  unfolding word_of
  refused-word h = let f = rw (ne_eqb (number_of a o) 0 h) at e in omega (arith, f)

  pub low-done : w < 2 ^ 32 → number_of a o ≡ 0
  low-done l = decide (eqb (number_of a o) 0) (λ t. eqb-true (number_of a o) 0 t)
      (λ f. let h = eqb-false (number_of a o) 0 f in absurd (h (let q = refused-word h in omega (arith, q, l))))

  pub high-refused : 2 ^ 32 ≤ w → number_of a o ≡ 0 → ⊥
  high-refused l z = let q = done-word z in let r = done-fits a o z in omega (arith, q, r, short, l)

  pub high_word : 2 ^ 32 ≤ w → w ≡ number_of a o * 2 ^ 32
  high_word l = refused-word (high-refused l)

  pub low_word : w < 2 ^ 32 → w ≡ length a.bytes
  low_word l = done-word (low-done l)

  pub low_fits : w < 2 ^ 32 → w ≤ map_longest
  low_fits l = let q = low_word l in let r = done-fits a o (low-done l) in omega (arith, q, r, short)

  pub low-image : {exit : List ℕ} → exit ≡ out_of a o → w < 2 ^ 32 → take w exit ≡ a.bytes
  unfolding out_of
  low-image {exit} f l = let z = low-done l in
      ap (take w) (rw (eq-eqb (number_of a o) 0 z) at f) ∙ take_at a.bytes (drop (length a.bytes) o) w (sym (low_word l))

-- a part from the first byte on
pub part-first : (n : ℕ) (l : List ℕ) → take n l ≡ take (n - 0) l
part-first n l = ap (λ k. take k l) (let e : n ≡ n - 0 = omega arith in e)

-- bytes that were copied to the front
pub copied : {b entry exit : List ℕ} {n : ℕ} → Wrote 0 b entry exit n → take n exit ≡ b
copied {b} {entry} {n = n} w =
    ap (take n) (w.left ∙ placed_first b entry) ∙ take_at b (drop (length b) entry) n (let e = w.ends in omega (arith, e))

-- a step that is refused, and one whose image is copied back
module _ (map op : List ℕ) {there left : List ℕ} {w : ℕ} (short : length there ≡ map_longest) (p : Answered (apply_answer map op) there left w) where
  abbrev a : Answer
  a = apply_answer map op

  same_number : number_of a there ≡ apply_number map op
  same_number = apply-number map op there short

  pub step_fits : w < 2 ^ 32 → w ≤ map_longest
  step_fits l = low_fits a there short p.packed l

  pub stepped : (entry : List ℕ) {exit : List ℕ} → (w < 2 ^ 32 → exit ≡ placed 0 (take w left) entry) → Stepped map op exit w
  stepped entry copied = record {
    refused = λ h. (
      high_word a there short p.packed h ∙ ap (λ n. n * 2 ^ 32) same_number,
      λ z. high-refused a there short p.packed h (same_number ∙ z),
    );
    number = λ l. sym same_number ∙ low-done a there short p.packed l;
    short = step_fits;
    image = λ l. let i = low-image a there short p.packed p.left l in
        ap (take w) (copied l ∙ placed_first (take w left) entry ∙ rw i refl)
        ∙ take_at a.bytes (drop (length a.bytes) entry) w (sym (low_word a there short p.packed l));
  }
