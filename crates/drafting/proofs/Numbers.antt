-- The number of a draft: which limit is broken first, or that there is too little room.
use mathlib.Core.Path.{◌≡◌, refl, ap, sym, ◌∙◌}
use mathlib.Core.Bool.{false}
use mathlib.Core.List.{List, ◌++◌, append_assoc}
use Prim.Native.Nat.{ℕ, ◌+◌, ◌*◌, ◌≤◌, ◌<◌}
use native.Mathlib.Omega.{arith}
use lib.ListN.{length, length-append, length-map}
use borrow.Author.Tests.{ne_eqb, ltb-false}
use Rattle.listlaws.specs.First.{some}
use Rattle.scan.proofs.Eachs.{decide}
use Rattle.clock.specs.declared.Dot.{Dot}
use Rattle.entries.specs.declared.Entry.{Entry}
use Rattle.removals.specs.declared.Removal.{Removal}
use Rattle.limits.specs.Limits.{entry_limit}
use Rattle.entries.specs.Steps.{overfull}
use Rattle.entries.proofs.Packs.{entries-of}
use Rattle.removals.proofs.Packs.{waiting-of}
use Rattle.map.specs.declared.Map.{Map}
use Rattle.map.specs.Judging.{Judged}
use Rattle.map.specs.Model.{map_as}
use Rattle.map.specs.Judging.{exceeding, over_dots, over_entries, over_values, over_waiting, over_keys, over_number, judged}
use Rattle.map.proofs.Kept.{seen_of}
use Rattle.map.proofs.Verdicts.{answer}
use Rattle.records.specs.declared.Record.{Record}
use Rattle.records.specs.Writing.{Wrote}
use Rattle.records.proofs.RoundTrips.{length-bytes}
use Rattle.clockimage.specs.Image.{dot_record, dot_records}
use Rattle.mapimage.specs.MapImage.{flat_from, entry_records, map_records, map_image}
use Rattle.answers.specs.Answer.{number_of, Answered}
use Rattle.answers.proofs.Answers.{number-own, number_short, number-done, writes}
use Rattle.promises.specs.Calls.{map_answer}
use Rattle.sketch.specs.Drawn.{sections_of}
use Rattle.drafting.specs.Drafted.{waiting_records, waiting_number, limit_number}

-- the answer of a judged map: a number that a limit gives, too little room, or the map
module _ (m : Map) {j : Judged} (o : List ℕ) where
  pub own-number : (n : ℕ) → j ≡ answer n m → (n ≡ 0 → ⊥) → n ≡ number_of (map_answer 0 0 j) o
  own-number n e h = sym (number-own (map_answer 0 0 j) o refl refl (sym (ap (λ (k : Judged). k.number) e ∙ rw (ne_eqb n 0 h))) h)

  short-number : j ≡ record { number = 0; map = m } → length o < length (map_image m) → 10 ≡ number_of (map_answer 0 0 j) o
  short-number e h = rw e (sym (number_short (map_answer 0 0 (record { number = 0; map = m })) o refl refl refl h))

  done-number : j ≡ record { number = 0; map = m } → length (map_image m) ≤ length o → 0 ≡ number_of (map_answer 0 0 j) o
  done-number e h = rw e (sym (number-done (map_answer 0 0 (record { number = 0; map = m })) o refl refl refl h))

  written : {d : List ℕ} {r : ℕ} → j ≡ record { number = 0; map = m } → 0 ≡ number_of (map_answer 0 0 j) o → Wrote 0 (map_image m) o d r
      → Answered (map_answer 0 0 j) o d r
  written e n w = writes (map_answer 0 0 j) o (sym n) (rw e w)

-- the records of a draft, one section behind the other
abbrev pub draft_records : List Dot → List Entry → List Removal → List Record
draft_records c l w = dot_records 1 0 0 c ++ (sections_of l ++ waiting_records w)

module _ (c : List Dot) (l : List Entry) (w : List Removal) where
  pub draft-records : map_records (map_as c l w) ≡ draft_records c l w
  draft-records =
      let x = append_assoc (flat_from (entry_records 2) 0 l) (flat_from (entry_records 3) 0 l ++ flat_from (entry_records 4) 0 l)
      (waiting_records w) in
      let y = append_assoc (flat_from (entry_records 3) 0 l) (flat_from (entry_records 4) 0 l) (waiting_records w) in
      rw (seen_of c l w, entries-of l, waiting-of w) (ap (λ k. dot_records 1 0 0 c ++ k) (sym (x ∙ ap (λ k. flat_from (entry_records 2) 0 l ++ k) y)))

  pub draft-length : length (map_image (map_as c l w)) ≡ (length c + (length (sections_of l) + length (waiting_records w))) * 16
  draft-length =
      let x = length-append (dot_records 1 0 0 c) (sections_of l ++ waiting_records w) in
      let y = length-append (sections_of l) (waiting_records w) in
      length-bytes (map_records (map_as c l w)) ∙ ap (λ k. length k * 16) draft-records ∙ omega (arith, x, y, length-map c (dot_record 1 0 0))

-- a draft that breaks no limit
pub record Settled (l : List Entry) (w : List Removal) : Type 0 where
  pub few : length l ≤ entry_limit
  pub narrow : some overfull l ≡ false
  pub waits : waiting_number w ≡ 0

pub settled : (l : List Entry) (w : List Removal) → limit_number l w ≡ 0 → Settled l w
settled l w z =
    decide (exceeding entry_limit l) (λ t. absurd (let q = rw t at z in omega arith))
    (λ f. decide (some overfull l) (λ t. absurd (let q = rw (f, t) at z in omega arith))
    (λ g. record { few = ltb-false _ _ f; narrow = g; waits = rw (f, g) at z }))

module _ (c : List Dot) (l : List Entry) (w : List Removal) (d : over_dots (map_as c l w) ≡ false) where
  -- the result, by the limit that is broken first
  judged-draft : judged (map_as c l w) ≡ answer (limit_number l w) (map_as c l w)
  unfolding judged over_number over_entries over_values over_waiting over_keys
  judged-draft = rw (d, entries-of l, waiting-of w)

  module _ (o : List ℕ) where
    abbrev number : ℕ
    number = number_of (map_answer 0 0 (judged (map_as c l w))) o

    pub over-limit : {n : ℕ} → n ≡ limit_number l w → (n ≡ 0 → ⊥) → n ≡ number
    over-limit {n} e h = own-number (map_as c l w) o n (judged-draft ∙ ap (λ k. answer k (map_as c l w)) (sym e)) h

    module _ (e : limit_number l w ≡ 0) where
      itself : judged (map_as c l w) ≡ record { number = 0; map = map_as c l w }
      itself = judged-draft ∙ ap (λ k. answer k (map_as c l w)) e

      pub short-room : length o < length (map_image (map_as c l w)) → 10 ≡ number
      short-room h = short-number (map_as c l w) o itself h

      pub done-room : length (map_image (map_as c l w)) ≤ length o → 0 ≡ number
      done-room h = done-number (map_as c l w) o itself h

      pub whole_room : {x : List ℕ} {r : ℕ} → length (map_image (map_as c l w)) ≤ length o → Wrote 0 (map_image (map_as c l w)) o x r
          → Answered (map_answer 0 0 (judged (map_as c l w))) o x r
      whole_room h x = written (map_as c l w) o itself (done-room h) x
