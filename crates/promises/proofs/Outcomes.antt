-- What a run of operations comes to, an operation at a time; and when two images have the same bytes.
use mathlib.Core.Path.{◌≡◌, refl, ap, sym, ◌∙◌}
use mathlib.Core.Bool.{Bool, true, false, ◌&&◌}
use mathlib.Core.List.{List, [], ◌∷◌}
use Prim.Native.Nat.{ℕ, suc, ◌+◌, ◌<◌}
use native.Mathlib.Numerals.{add-one}
use native.Mathlib.Omega.{arith}
use borrow.Author.Tests.{eq-eqb, ne_eqb, eqb-true}
use lib.Dec.{eqb}
use lib.ListN.{length, drop, get_or, replicate, length-replicate}
use lib.Seq.{drop-cons}
use Rattle.listlaws.proofs.Orders.{apart}
use Rattle.listlaws.proofs.Rising.{both_hold}
use Rattle.scan.proofs.Eachs.{decide}
use Rattle.mapimage.specs.MapImage.{map_longest}
use Rattle.answers.specs.Answer.{Answer, first_of, number_of}
use Rattle.promises.specs.Calls.{apply_answer}
use Rattle.promises.specs.CatchUp.{apply_number, Outcome, outcome_from, same_bytes}

-- an answer's number looks at no more of the output than its length
pub number-by-length : (a : Answer) (o p : List ℕ) → length o ≡ length p → number_of a o ≡ number_of a p
unfolding number_of first_of
number-by-length a o p e = rw e refl

-- so any output of the longest size shows an operation's own answer
pub apply-number : (map op out : List ℕ) → length out ≡ map_longest → number_of (apply_answer map op) out ≡ apply_number map op
unfolding apply_number
apply-number map op out e = number-by-length (apply_answer map op) out (replicate map_longest 0) (e ∙ sym (length-replicate {A = ℕ} map_longest 0))

-- an operation is accepted, or refused
module _ (place : ℕ) (s o : List ℕ) (ops : List (List ℕ)) where
  pub outcome-on : apply_number s o ≡ 0 → outcome_from place s (o ∷ ops) ≡ outcome_from (place + 1) (apply_answer s o).bytes ops
  unfolding outcome_from
  outcome-on z = rw (eq-eqb (apply_number s o) 0 z) refl

  pub outcome-stop : (apply_number s o ≡ 0 → ⊥) → outcome_from place s (o ∷ ops) ≡ record { number = apply_number s o; place = place; image = s }
  unfolding outcome_from
  outcome-stop h = rw (ne_eqb (apply_number s o) 0 h) refl

pub outcome-end : (place : ℕ) (s : List ℕ) → outcome_from place s [] ≡ record { number = 0; place = 0; image = s }
unfolding outcome_from
outcome-end place s = refl

-- the same bytes
pub same_bytes_lem : (l : List ℕ) → same_bytes l l ≡ true
unfolding same_bytes
same_bytes_lem [] = refl
same_bytes_lem (x ∷ l) = rw (eq-eqb x x refl) (same_bytes_lem l)

pub bytes_same : (l m : List ℕ) → same_bytes l m ≡ true → l ≡ m
unfolding same_bytes
bytes_same [] [] t = refl
bytes_same [] (y ∷ m) t = apart (sym t)
bytes_same (x ∷ l) [] t = apart (sym t)
bytes_same (x ∷ l) (y ∷ m) t =
    let p = both_hold (eqb x y) (same_bytes l m) t in
    ap (λ z. z ∷ l) (eqb-true x y p.0) ∙ ap (λ k. y ∷ k) (bytes_same l m p.1)

pub bytes-differ : (l m : List ℕ) → (l ≡ m → ⊥) → same_bytes l m ≡ false
bytes-differ l m h = decide (same_bytes l m) (λ t. absurd (h (bytes_same l m t))) (λ f. f)

pub same-on : (l m : List ℕ) (i : ℕ) → i < length l → i < length m
    → same_bytes (drop i l) (drop i m) ≡ (eqb (get_or l i 0) (get_or m i 0) && same_bytes (drop (i + 1) l) (drop (i + 1) m))
unfolding same_bytes
same-on l m i p q = rw (add-one i, drop-cons l i 0 p, drop-cons m i 0 q) refl
