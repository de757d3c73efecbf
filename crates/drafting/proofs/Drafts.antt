-- A draft as the code holds it: its number, its records and how many there are.
use mathlib.Core.Path.{◌≡◌, ap, ap₂, sym, ◌∙◌}
use mathlib.Core.List.{List, ◌++◌}
use Prim.Native.Nat.{ℕ, ◌+◌, ◌*◌, ◌≤◌}
use native.Mathlib.Omega.{arith}
use lib.ListN.{length}
use Rattle.clock.specs.declared.Clock.{Clock}
use Rattle.clock.specs.declared.Dot.{Dot}
use Rattle.clock.specs.Dots.{dots_of}
use Rattle.clock.proofs.Packs.{dots-of}
use Rattle.entries.specs.declared.Entry.{Entry}
use Rattle.removals.specs.declared.Removal.{Removal}
use Rattle.map.specs.Model.{map_as}
use Rattle.map.specs.Judging.{judged}
use Rattle.records.specs.declared.Record.{Record}
use Rattle.records.specs.Records.{bytes_of}
use Rattle.records.specs.Writing.{Wrote}
use Rattle.records.proofs.RoundTrips.{length-bytes}
use Rattle.records.proofs.Writing.{Writing, write-start}
use Rattle.clockimage.specs.Image.{dot_records}
use Rattle.mapimage.specs.MapImage.{map_records, map_image}
use Rattle.answers.specs.Answer.{Answered}
use Rattle.promises.specs.Calls.{map_answer}
use Rattle.walks.specs.declared.Span.{Span}
use Rattle.planned.specs.declared.Plan.{Plan}
use Rattle.sketch.specs.declared.Sketch.{Sketch}
use Rattle.sketch.specs.Drawn.{drawn_all, sections_of, AllReady}
use Rattle.sketch.proofs.Counts.{all-records}
use Rattle.drafting.specs.Drafted.{waiting_records, waiting_number, limit_number, Drafted}
use Rattle.drafting.proofs.Numbers.{draft-records, draft-length, settled, whole_room}

module _ {s t : List ℕ} {ours theirs : Span} {clock : Clock} {sk : Sketch} {plan : Plan} {c : List Dot} {l : List Entry} {w : List Removal}
    (d : Drafted s t ours theirs clock sk plan c l w) where
  -- the records, by the code's names
  abbrev pub whole : List Record
  whole = dot_records 1 0 0 (dots_of clock) ++ (sections_of (drawn_all s t sk) ++ waiting_records w)

  module _ (z : limit_number l w ≡ 0) where
    pub ready : AllReady s t sk
    ready = let h = settled l w z in (d.entries.items h.few h.narrow).1

    pub drawn-whole : drawn_all s t sk ≡ l
    drawn-whole = let h = settled l w z in (d.entries.items h.few h.narrow).0

    pub waits-well : waiting_number w ≡ 0
    waits-well = (settled l w z).waits

    same-records : map_records (map_as c l w) ≡ whole
    same-records =
        draft-records c l w ∙ ap₂ (λ a b. dot_records 1 0 0 a ++ (sections_of b ++ waiting_records w)) (sym (dots-of c d.seen)) (sym drawn-whole)

    -- how long the image is, by what the code counts
    pub counted : {n r : ℕ} → n ≡ length (dots_of clock) → r ≡ length (waiting_records w)
        → length (map_image (map_as c l w)) ≡ (n + (sk.sums.dots + sk.sums.others + r)) * 16
    counted p q =
        let h = settled l w z in
        let x = ap length (dots-of c d.seen) in
        let y = d.entries.sums.records h.few h.narrow ∙ all-records l in
        draft-length c l w ∙ omega (arith, x, y, p, q)

    module _ (o : List ℕ) (room : length (map_image (map_as c l w)) ≤ length o) where
      pub start : Writing whole whole 0 o o 0
      start = write-start whole 0 o (omega (arith, room, length-bytes (map_records (map_as c l w)), ap length same-records))

      pub finished : {e : List ℕ} {r : ℕ} → Wrote 0 (bytes_of whole) o e r → Answered (map_answer 0 0 (judged (map_as c l w))) o e r
      finished x = whole_room c l w d.dots o z room (rw same-records x)
