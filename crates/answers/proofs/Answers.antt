-- How each way out of a call answers, and that an answer leaves nothing open. Every call's proof cites these.
use mathlib.Core.Path.{◌≡◌, refl, sym, ◌∙◌}
use mathlib.Core.Bool.{true, false}
use mathlib.Core.List.{List, [], ◌∷◌}
use Prim.Native.Nat.{ℕ, ◌*◌, ◌^◌, ◌≤◌, ◌<◌}
use native.Mathlib.Omega.{arith}
use lib.Dec.{eqb}
use lib.ListN.{length, replicate, length-replicate}
use borrow.Author.Tests.{ne_eqb, lt-ltb, le-ltb}
use Rattle.scan.proofs.Eachs.{decide}
use Rattle.records.specs.Writing.{Wrote}
use Rattle.records.proofs.Placing.{placed_first}
use Rattle.answers.specs.Answer.{Answer, first_of, number_of, word_of, out_of, Answered, Counted}

-- the number, by the first that is not 0: each takes the n that the code found, with what says that it is the answer's
module _ (a : Answer) (o : List ℕ) {n : ℕ} where
  pub number-first : n ≡ a.first → (n ≡ 0 → ⊥) → number_of a o ≡ n
  unfolding number_of first_of
  number-first e h = rw (← e, ne_eqb n 0 h)

  pub number-second : a.first ≡ 0 → n ≡ a.second → (n ≡ 0 → ⊥) → number_of a o ≡ n
  unfolding number_of first_of
  number-second p e h = rw (p, ← e, ne_eqb n 0 h)

  pub number-own : a.first ≡ 0 → a.second ≡ 0 → n ≡ a.own → (n ≡ 0 → ⊥) → number_of a o ≡ n
  unfolding number_of first_of
  number-own p q e h = rw (p, q, ← e, ne_eqb n 0 h)

module _ (a : Answer) (o : List ℕ) (p : a.first ≡ 0) (q : a.second ≡ 0) (s : a.own ≡ 0) where
  pub number_short : length o < length a.bytes → number_of a o ≡ 10
  unfolding number_of first_of
  number_short l = rw (p, q, s, lt-ltb _ _ l)

  pub number-done : length a.bytes ≤ length o → number_of a o ≡ 0
  unfolding number_of first_of
  number-done l = rw (p, q, s, le-ltb _ _ l)

pub refuses : (a : Answer) (o : List ℕ) {n : ℕ} → number_of a o ≡ n → (n ≡ 0 → ⊥) → Answered a o o (n * 2 ^ 32)
unfolding word_of out_of
refuses a o {n} e h = record { packed = rw (e, ne_eqb n 0 h) (omega arith); left = rw (e, ne_eqb n 0 h) }

pub writes : (a : Answer) (o : List ℕ) {d : List ℕ} {r : ℕ} → number_of a o ≡ 0 → Wrote 0 a.bytes o d r → Answered a o d r
unfolding word_of out_of
writes a o e w = record { packed = rw e (omega (arith, w.ends)); left = rw e (w.left ∙ placed_first a.bytes o) }

-- what is answered of the call's own work, once both images have passed
pub passes : (a : Answer) {o d : List ℕ} {r : ℕ} → a.first ≡ 0 → a.second ≡ 0
    → Answered (record { first = 0; second = 0; own = a.own; bytes = a.bytes }) o d r → Answered a o d r
unfolding word_of out_of number_of first_of
passes a p q w = record { packed = w.packed ∙ rw (p, q); left = w.left ∙ rw (p, q) }

-- the word of an answer with no bytes
pub bare : (a : Answer) (n : ℕ) → number_of a [] ≡ n → length a.bytes ≡ 0 → n * 2 ^ 32 ≡ word_of a []
unfolding word_of
bare a n e z = rw e (decide (eqb n 0) (λ t. rw (t, z) (omega arith)) (λ f. rw f (omega arith)))

-- both images pass, or the first number is that of one
pub both-pass : (m o : ℕ) → m ≡ 0 → o ≡ 0 → eqb (first_of (m ∷ o ∷ [])) 0 ≡ true
unfolding first_of
both-pass m o p q = rw (p, q)

pub one-fails : (m o : ℕ) → (m ≡ 0 → ⊥) → eqb (first_of (m ∷ o ∷ [])) 0 ≡ false
unfolding first_of
one-fails m o h = rw (ne_eqb m 0 h) (ne_eqb m 0 h)

pub other-fails : (m o : ℕ) → m ≡ 0 → (o ≡ 0 → ⊥) → eqb (first_of (m ∷ o ∷ [])) 0 ≡ false
unfolding first_of
other-fails m o p h = rw (p, ne_eqb o 0 h) (ne_eqb o 0 h)

-- the one law: two results that meet a contract are identical
pub same : {A : Type 0} {x y z : A} → x ≡ z → y ≡ z → x ≡ y
same p q = p ∙ sym q

pub record Same (d e : List ℕ) (r s : ℕ) : Type 0 where
  pub words : r ≡ s
  pub outputs : d ≡ e

-- so are those of a call with an output
abbrev pub Written : (List ℕ → List ℕ → ℕ → Type 0) → Type 0
Written Promise = (out d e : List ℕ) (r s : ℕ) → Promise out d r → Promise out e s → Same d e r s

pub same_answer : {a : Answer} {o d e : List ℕ} {r s : ℕ} → Answered a o d r → Answered a o e s → Same d e r s
same_answer p q = record { words = same p.packed q.packed; outputs = same p.left q.left }

-- so of two counts, and of the number that a call of any output of that length answers
pub same_count : {a : Answer} {room n r s : ℕ} → Counted a room n r → Counted a room n s → r ≡ s
same_count {room = room} p q = same (p.counts (replicate room 0) (length-replicate room 0)) (q.counts (replicate room 0) (length-replicate room 0))

module _ {a : Answer} {n r : ℕ} (out : List ℕ) (p : Counted a (length out) n r) where
  pub count-done : number_of a out ≡ 0 → r ≡ n
  count-done z = p.counts out refl ∙ rw z refl
