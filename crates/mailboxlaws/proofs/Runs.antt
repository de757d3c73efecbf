-- However an image is cut into pieces, a run of the calls ends as the whole image read at once.
use mathlib.Core.Path.{◌≡◌, refl, ap, ap₂, sym, ◌∙◌}
use mathlib.Core.List.Memᴰ
use mathlib.Core.List.{List, [], ◌∷◌, ◌++◌, map}
use Prim.Native.Nat.{ℕ, ◌*◌, ◌^◌, ◌≤◌}
use native.Mathlib.Omega.{arith}
use lib.ListN.{length, drop}
use Rattle.listlaws.specs.Order.{◌∈◌}
use Rattle.listlaws.specs.Fold.{fold}
use Rattle.records.specs.Bytes.{num_at, Bytes}
use Rattle.maprecords.specs.Related.{read_map}
use Rattle.oneimagelaws.proofs.Rewritten.{writes-read}
use Rattle.answers.specs.Answer.{number_of, word_of, out_of, Answered}
use Rattle.answers.proofs.Answers.{number-done, Same, same_answer}
use Rattle.memory.specs.Memory.{open_place}
use Rattle.mailbox.specs.Machine.{take_word, take_in}
use Rattle.mailbox.specs.Held.{Came, joined}
use Rattle.mailbox.proofs.Coming.{came-piece}
use Rattle.mailbox.proofs.Begins.{came-none}
use Rattle.mailbox.proofs.Cuts.{takes_none, takes_one, joined_bytes, came-all}
use Rattle.delivery.specs.Delivery.{Ended}
use Rattle.delivery.proofs.Ends.{end-closed, end-marks}
use Rattle.delivery.proofs.Whole.{whole_answer, same_number, ended-as-read, SameEnd, same_end}
use Rattle.mailboxlaws.specs.Run.{Taking, last, more, Run}

taken_is : {w u words : List ℕ} {pieces : List (List ℕ)} → Taking w pieces words u → u ≡ fold take_in w pieces
unfolding fold
taken_is last = refl
taken_is (more {pieces = pieces} e t) = taken_is t ∙ ap (λ v. fold take_in v pieces) e.1

zeros-taken : {s w u words : List ℕ} {pieces : List (List ℕ)} → Came s w → ((p : List ℕ) → p ∈ pieces → Bytes p) → Taking w pieces words u
    → words ≡ map (λ p. 0) pieces
zeros-taken c h last = refl
zeros-taken {s} {w} c h (more {v = v} {p = p} e t) =
    let o = takes_one w p c.is_open in
    let next : Came (s ++ p) v = rw (e.1 ∙ o.1) (came-piece s w p c (h p (Memᴰ.head refl))) in
    ap₂ (λ a l. a ∷ l) (e.0 ∙ o.0) (zeros-taken next (λ q i. h q (Memᴰ.tail i)) t)

module _ {memory : List ℕ} {pieces : List (List ℕ)} {entry left exit : List ℕ} {word : ℕ} (x : Run memory pieces entry left exit word) where
  came : Came (joined pieces) x.taken
  came = rw (taken_is x.takes ∙ ap (λ v. fold take_in v pieces) x.began.1)
      (came-all memory x.lent.long x.lent.bytes pieces x.lent.each)

  -- end theorems from here on: each piece is taken with 0, however many they are and however long
  pub all-taken : x.words ≡ map (λ p. 0) pieces
  all-taken = zeros-taken {s = []} (rw x.began.1 (came-none memory x.lent.long x.lent.bytes)) x.lent.each x.takes

  -- the word and every byte of the output are those of the joined bytes read at once
  pub ends-as-whole : Answered (whole_answer (joined pieces)) entry exit word
  ends-as-whole = ended-as-read came entry x.ended

  -- what is delivered is what came
  pub delivers : (read_map (joined pieces)).number ≡ 0 → length (joined pieces) ≤ length entry
      → (word ≡ length (joined pieces)) × (exit ≡ joined pieces ++ drop (length (joined pieces)) entry)
  unfolding word_of out_of
  delivers z h =
      let b = writes-read (joined pieces) (joined_bytes pieces x.lent.each) z in
      let n = number-done (whole_answer (joined pieces)) entry z refl refl (omega (arith, ap length b, h)) in
      (ends-as-whole.packed ∙ rw n (omega (arith, ap length b)), ends-as-whole.left ∙ rw (n, b))

  -- where the answer was not 10 the reader has ended: a piece and an end after it are answered 13 and change nothing
  module _ (n : number_of (whole_answer (joined pieces)) entry ≡ 10 → ⊥) where
    closed : num_at 0 open_place left ≡ 1 → ⊥
    closed e =
        let z = end-marks x.taken entry came.is_open x.ended (λ q. n (sym (same_number came entry) ∙ q)) in
        absurd (omega arith)

    pub no-piece-after : (p : List ℕ) → (take_word left ≡ 13 * 2 ^ 32) × (take_in left p ≡ left)
    no-piece-after p = takes_none left p closed

    pub no-end-after : {o v q : List ℕ} {t : ℕ} → Ended left o v q t → SameEnd v left q o t (13 * 2 ^ 32)
    no-end-after {o} y = same_end y (end-closed left o closed)

-- two ways of cutting the same bytes, over any two memories
pub cut-alike : {m k : List ℕ} {pieces others : List (List ℕ)} {entry left right exit out : List ℕ} {r t : ℕ} → Run m pieces entry left exit r
    → Run k others entry right out t → joined pieces ≡ joined others → Same exit out r t
cut-alike x y e = same_answer (ends-as-whole x) (rw e (ends-as-whole y))
