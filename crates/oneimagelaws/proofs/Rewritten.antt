-- An accepted image is written back as it was, record for record and byte for byte.
use mathlib.Core.Path.{◌≡◌, refl, ap, sym, ◌∙◌}
use mathlib.Core.Bool.{true}
use mathlib.Core.List.{List}
use Prim.Native.Nat.{ℕ, ◌≤◌}
use native.Mathlib.Omega.{arith}
use lib.Dec.{eqb}
use lib.ListN.{length-map}
use borrow.Author.Tests.{eqb-true, eqb-false}
use Rattle.listlaws.proofs.Orders.{same-members}
use Rattle.limits.specs.Limits.{waiting_limit}
use Rattle.entries.proofs.Packs.{entries-of}
use Rattle.removals.proofs.Packs.{waiting-of}
use Rattle.map.proofs.Kept.{seen_of}
use Rattle.records.specs.declared.Record.{Record}
use Rattle.records.specs.Bytes.{Bytes}
use Rattle.records.specs.Records.{records_of, bytes_of}
use Rattle.records.proofs.RoundTrips.{written_read}
use Rattle.scan.specs.Each.{every, each}
use Rattle.scan.specs.Numbers.{scan_number}
use Rattle.scan.proofs.Eachs.{decide, both_left, both_right}
use Rattle.clockimage.proofs.RoundTrip.{accepted}
use Rattle.mapimage.specs.MapImage.{map_longest, records_in, map_records, map_image}
use Rattle.clockimage.specs.ClockImage.{clock_in}
use Rattle.maprecords.specs.Reading.{entries_for, waiting_count, waiting_removal_in, numbers_below, waiting_for, map_in}
use Rattle.maprecords.specs.Related.{finds_place, entry_whole, ascend, related, refused_map, judged_map, read_map}
use Rattle.maprecords.proofs.Keys.{length-below}
use Rattle.acceptancelaws.proofs.Grouped.{rises}
use Rattle.acceptancelaws.proofs.Maps.{related-within}
use Rattle.acceptancelaws.proofs.Waited.{waiting_few}
use Rattle.oneimagelaws.proofs.Rising.{records-ascend}
use Rattle.oneimagelaws.proofs.Selected.{before-strict}
use Rattle.oneimagelaws.proofs.Stands.{part-stands, stands-part}
use Rattle.oneimagelaws.proofs.Standing.{stands-again}
use Rattle.oneimagelaws.proofs.Coming.{comes-from}

-- the records of the map that records stand for
parts : (l : List Record) → map_records (map_in l) ≡ records_in (clock_in l) (entries_for l) (waiting_for l)
parts l = rw (seen_of (clock_in l) (entries_for l) (waiting_for l), entries-of (entries_for l), waiting-of (waiting_for l))

-- both ascend, and what stands in one stands in the other
pub records-rewritten : (l : List Record) → scan_number 1 6 l ≡ 0 → related l ≡ true → map_records (map_in l) ≡ l
unfolding related
records-rewritten l z t =
    let p = both_left (each finds_place l) _ t in
    let rise = both_right (every (entry_whole (clock_in l)) (entries_for l)) (ascend (waiting_for l)) (both_right (each finds_place l) _ t) in
    let few : waiting_count l ≤ waiting_limit = omega (
      arith,
      waiting_few l z p rise,
      length-map (numbers_below (waiting_count l)) (waiting_removal_in l),
      length-below (waiting_count l),
    ) in
    same-members before-strict (map_records (map_in l)) l (records-ascend (related-within l z t)) (rises 1 6 l z)
    (λ r i. comes-from l z p few r (stands-part (clock_in l) (entries_for l) (waiting_for l) r (rw (parts l) at i)))
    (λ r i. rw (parts l) (part-stands (clock_in l) (entries_for l) (waiting_for l) (stands-again l z p few r i)))

-- the same of records that are judged to be a map
judged-rewritten : (l : List Record) → (judged_map l).number ≡ 0 → map_records (judged_map l).map ≡ l
judged-rewritten l n =
    decide (eqb (scan_number 1 6 l) 0)
    (λ t. decide (related l) (λ u. rw (t, u) (records-rewritten l (eqb-true (scan_number 1 6 l) 0 t) u))
    (λ f. absurd (let q = rw (t, f) at n in omega arith)))
    (λ f. let q = rw f at n in absurd (eqb-false (scan_number 1 6 l) 0 f q))

-- what was read writes as it was
pub writes-read : (s : List ℕ) → Bytes s → (read_map s).number ≡ 0 → map_image (read_map s).map ≡ s
unfolding read_map
writes-read s b e =
    let a = accepted (λ r. r.number) map_longest refused_map judged_map s (λ n. refl) e in
    ap (λ r. map_image r.map) a.same ∙ ap bytes_of (judged-rewritten (records_of s) (ap (λ r. r.number) (sym a.same) ∙ e))
    ∙ written_read s b a.whole
