-- How each way out of the end answers, and what it leaves of the reader.
use mathlib.Core.Path.{◌≡◌, refl, sym, ◌∙◌, ap}
use mathlib.Core.Bool.{cond}
use mathlib.Core.List.{List, [], ◌∷◌}
use Prim.Native.Nat.{ℕ, zero, suc, ◌%◌, ◌*◌, ◌^◌, ◌≤◌, ◌<◌}
use native.Mathlib.Omega.{arith}
use lib.Dec.{eqb, ltb}
use lib.ListN.{length}
use borrow.Author.Tests.{eqb-true, eqb-false, eq-eqb, ne_eqb, ltb-true, ltb-false}
use Rattle.scan.proofs.Eachs.{decide}
use Rattle.records.specs.Bytes.{num_at, num_bytes, placed}
use Rattle.records.specs.Writing.{Wrote}
use Rattle.answers.specs.Answer.{first_of, number_of}
use Rattle.answers.proofs.Answers.{number-first, number-second, number_short, number-done, refuses, writes}
use Rattle.mapimage.specs.MapImage.{map_longest}
use Rattle.maprecords.specs.Related.{length_number}
use Rattle.memory.specs.Memory.{open_place, length_place}
use Rattle.delivery.specs.Delivery.{scanned_at, related_at, end_number, image_at, closed_number, end_answer, ended_by, Ended}

-- the number, by the first that is not 0
module _ (w : List ℕ) {n : ℕ} where
  pub number-of-length : n ≡ length_number (num_at 2 length_place w) → (n ≡ 0 → ⊥) → n ≡ end_number w
  unfolding end_number first_of
  number-of-length e h = sym (rw (← e, ne_eqb n 0 h))

  pub number-of-records : length_number (num_at 2 length_place w) ≡ 0 → n ≡ scanned_at w → (n ≡ 0 → ⊥) → n ≡ end_number w
  unfolding end_number first_of
  number-of-records p e h = sym (rw (p, ← e, ne_eqb n 0 h))

  pub number-of-all : length_number (num_at 2 length_place w) ≡ 0 → scanned_at w ≡ 0 → n ≡ cond (related_at w) 0 3 → n ≡ end_number w
  unfolding end_number first_of
  number-of-all p q e = e ∙ decide (related_at w) (λ t. rw (p, q, t)) (λ f. rw (p, q, f))

-- it is 1, 2 or 3
first-most : (a b c : ℕ) → a ≤ 3 → b ≤ 3 → c ≤ 3 → first_of (a ∷ b ∷ c ∷ []) ≤ 3
unfolding first_of
first-most a b c x y z =
    decide (eqb a 0) (λ t. rw t (decide (eqb b 0) (λ u. rw u (decide (eqb c 0) (λ v. rw v (omega arith)) (λ v. rw v z))) (λ u. rw u y))) (λ t. rw t x)

length_most : (n : ℕ) → length_number n ≤ 3
length_most n =
    decide (ltb map_longest n) (λ t. rw t (omega arith)) (λ f. rw f (decide (eqb (n % 16) 0) (λ t. rw t (omega arith)) (λ g. rw g (omega arith))))

pub number-most : (w : List ℕ) → end_number w ≤ 3
unfolding end_number
number-most w =
    first-most (length_number (num_at 2 length_place w)) (scanned_at w) (cond (related_at w) 0 3) (length_most (num_at 2 length_place w))
    (omega arith)
    (decide (related_at w) (λ t. rw t (omega arith)) (λ f. rw f (omega arith)))

-- a number of the image ends the reader
ends : (n : ℕ) (w : List ℕ) → n ≤ 3 → ended_by n w ≡ placed open_place (num_bytes 0 0) w
unfolding ended_by
ends zero w h = refl
ends (suc zero) w h = refl
ends (suc (suc zero)) w h = refl
ends (suc (suc (suc zero))) w h = refl
ends (suc (suc (suc (suc n)))) w h = absurd (omega arith)

module _ (w o : List ℕ) where
  pub end-closed : (num_at 0 open_place w ≡ 1 → ⊥) → Ended w o w o (13 * 2 ^ 32)
  unfolding ended_by
  end-closed h =
      let e : number_of (end_answer w) o ≡ 13 = number-first _ _ (sym (rw (ne_eqb _ 1 h))) (λ z. absurd (omega arith)) in
      record { answered = refuses _ _ e (λ z. absurd (omega arith)); reader = rw e }

  module _ (opening : num_at 0 open_place w ≡ 1) where
    opened : closed_number w ≡ 0
    opened = rw (eq-eqb _ 1 opening)

    pub end_refused : {n : ℕ} → n ≡ end_number w → (n ≡ 0 → ⊥) → Ended w o (placed open_place (num_bytes 0 0) w) o (n * 2 ^ 32)
    end_refused {n} e z =
        let a : number_of (end_answer w) o ≡ n = number-second _ _ opened e z in
        record { answered = refuses _ _ a z; reader = rw a (sym (ends n w (rw e (number-most w)))) }

    pub end_short : 0 ≡ end_number w → length o < length (image_at w) → Ended w o w o (10 * 2 ^ 32)
    unfolding ended_by
    end_short e h =
        let a : number_of (end_answer w) o ≡ 10 = number_short _ _ opened (sym e) refl h in
        record { answered = refuses _ _ a (λ z. absurd (omega arith)); reader = rw a }

    pub end-writes : {p : List ℕ} {r : ℕ} → 0 ≡ end_number w → length (image_at w) ≤ length o → Wrote 0 (image_at w) o p r
        → Ended w o (placed open_place (num_bytes 0 0) w) p r
    end-writes e h x =
        let a : number_of (end_answer w) o ≡ 0 = number-done _ _ opened (sym e) refl h in
        record { answered = writes _ _ a x; reader = rw a (sym (ends 0 w (omega arith))) }

    -- an answer that is not 10 has ended the reader
    pub end-marks : {v p : List ℕ} {r : ℕ} → Ended w o v p r → (number_of (end_answer w) o ≡ 10 → ⊥) → num_at 0 open_place v ≡ 0
    unfolding placed
    end-marks x n = ap (num_at 0 open_place) (x.reader ∙ marked)
      where
        marked : ended_by (number_of (end_answer w) o) w ≡ placed open_place (num_bytes 0 0) w
        marked =
            decide (eqb (end_number w) 0)
            (λ t. let z = eqb-true (end_number w) 0 t in
            decide (ltb (length o) (length (image_at w)))
            (λ u. absurd (n (number_short (end_answer w) o opened z refl (ltb-true _ _ u))))
            (λ u. ap (λ k. ended_by k w) (number-done (end_answer w) o opened z refl (ltb-false _ _ u)) ∙ ends 0 w (omega arith)))
            (λ f. ap (λ k. ended_by k w) (number-second (end_answer w) o opened refl (eqb-false (end_number w) 0 f))
            ∙ ends (end_number w) w (number-most w))
