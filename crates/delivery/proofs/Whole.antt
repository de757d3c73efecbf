-- The end answers what the whole image is answered with, read at once; and it leaves nothing open.
use mathlib.Core.Path.{◌≡◌, ◌∙◌}
use mathlib.Core.List.{List}
use Prim.Native.Nat.{ℕ}
use lib.Dec.{eqb}
use borrow.Author.Tests.{eqb-true, eqb-false, eq-eqb}
use Rattle.scan.proofs.Eachs.{decide}
use Rattle.mapimage.specs.MapImage.{map_image}
use Rattle.maprecords.specs.Related.{read_map}
use Rattle.answers.specs.Answer.{Answer, first_of, number_of, word_of, out_of, Answered}
use Rattle.answers.proofs.Answers.{Same, same, same_answer}
use Rattle.mailbox.specs.Held.{Came}
use Rattle.delivery.specs.Delivery.{image_at, closed_number, end_answer, Ended}
use Rattle.delivery.proofs.Judged.{ends-as-read, writes-as-read}

-- answers with the same number, and the same bytes where it is 0
alike : (a b : Answer) (o : List ℕ) {p : List ℕ} {r : ℕ} → number_of a o ≡ number_of b o → (number_of b o ≡ 0 → a.bytes ≡ b.bytes) → Answered a o p r
    → Answered b o p r
unfolding word_of out_of
alike a b o n e x =
    decide (eqb (number_of b o) 0)
    (λ t. let q = e (eqb-true (number_of b o) 0 t) in record { packed = x.packed ∙ rw (n, q); left = x.left ∙ rw (n, q) })
    (λ f. record { packed = x.packed ∙ rw (n, f); left = x.left ∙ rw (n, f) })

-- what a whole image is answered with
abbrev pub whole_answer : List ℕ → Answer
whole_answer s = record { first = (read_map s).number; second = 0; own = 0; bytes = map_image (read_map s).map }

module _ {s w : List ℕ} (c : Came s w) (o : List ℕ) where
  opened : closed_number w ≡ 0
  opened = rw (eq-eqb _ 1 c.is_open)

  pub same_number : number_of (end_answer w) o ≡ number_of (whole_answer s) o
  unfolding number_of first_of
  same_number =
      decide (eqb (read_map s).number 0)
      (λ t. rw (opened, ends-as-read c, t, writes-as-read c (eqb-true (read_map s).number 0 t)))
      (λ f. rw (opened, ends-as-read c, f))

  same_bytes : number_of (whole_answer s) o ≡ 0 → image_at w ≡ map_image (read_map s).map
  unfolding number_of first_of
  same_bytes z =
      decide (eqb (read_map s).number 0)
      (λ t. writes-as-read c (eqb-true (read_map s).number 0 t))
      (λ f. absurd (eqb-false (read_map s).number 0 f (rw f at z)))

  pub ended-as-read : {v p : List ℕ} {r : ℕ} → Ended w o v p r → Answered (whole_answer s) o p r
  ended-as-read x = alike (end_answer w) (whole_answer s) o same_number same_bytes x.answered

-- two results that meet the contract are identical, whatever stands in the memory
pub record SameEnd (v u p q : List ℕ) (r t : ℕ) : Type 0 where
  pub answers : Same p q r t
  pub readers : v ≡ u

pub same_end : {w o v u p q : List ℕ} {r t : ℕ} → Ended w o v p r → Ended w o u q t → SameEnd v u p q r t
same_end x y = record { answers = same_answer x.answered y.answered; readers = same x.reader y.reader }
