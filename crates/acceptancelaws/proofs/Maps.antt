-- What the readers promise of the map and the operation that they give: valid, and within every limit; also of a refused image.
use mathlib.Core.Path.{◌≡◌, refl}
use mathlib.Core.Bool.{true}
use mathlib.Core.List.Memᴰ
use mathlib.Core.List.{List}
use Prim.Native.Nat.{ℕ, ◌%◌}
use lib.Dec.{eqb, ltb}
use lib.ListN.{length}
use borrow.Author.Tests.{eqb-true}
use Rattle.listlaws.specs.Order.{nil}
use Rattle.listlaws.specs.First.{first_in}
use Rattle.clock.proofs.Packs.{dots-of}
use Rattle.entries.proofs.Packs.{entries-of}
use Rattle.removals.proofs.Packs.{waiting-of}
use Rattle.map.specs.Model.{no_map}
use Rattle.map.specs.Judging.{over_number, over_dots, over_entries, over_values, over_waiting, over_keys}
use Rattle.map.specs.Valid.{Within}
use Rattle.map.proofs.Kept.{valid-as}
use Rattle.map.proofs.Accepts.{fits-holds}
use Rattle.records.specs.declared.Record.{Record}
use Rattle.records.specs.Records.{records_of}
use Rattle.scan.specs.Each.{every, each}
use Rattle.scan.specs.Numbers.{scan_number}
use Rattle.scan.proofs.Eachs.{decide, both_left, both_right}
use Rattle.mapimage.specs.MapImage.{map_longest}
use Rattle.clockimage.specs.ClockImage.{clock_in}
use Rattle.maprecords.specs.Reading.{entries_for, waiting_for, map_in}
use Rattle.maprecords.specs.Related.{finds_place, entry_whole, ascend, related, judged_map, read_map}
use Rattle.acceptancelaws.proofs.Limited.{clock-few}
use Rattle.acceptancelaws.proofs.Entered.{clock-lawful, entries-valid, entries_fit, entries-count}
use Rattle.acceptancelaws.proofs.Waited.{waiting-valid, waiting-fit, waiting_few}

-- the map of related records
pub related-within : (l : List Record) → scan_number 1 6 l ≡ 0 → related l ≡ true → Within (map_in l)
unfolding related
related-within l z t =
    let p = both_left (each finds_place l) _ t in
    let u = both_right (each finds_place l) _ t in
    let whole = both_left (every (entry_whole (clock_in l)) (entries_for l)) (ascend (waiting_for l)) u in
    let rise = both_right (every (entry_whole (clock_in l)) (entries_for l)) (ascend (waiting_for l)) u in
    record {
      valid = valid-as (clock-lawful l z) (entries-valid l z whole) (waiting-valid l z p rise);
      limits = fits-holds (record {
        clock = rw (dots-of (clock_in l) refl) (clock-few l z);
        count = rw (entries-of (entries_for l)) (entries-count l z whole);
        entries = rw (entries-of (entries_for l)) (entries_fit l z whole);
        number = rw (waiting-of (waiting_for l)) (waiting_few l z p rise);
        waiting = rw (waiting-of (waiting_for l)) (waiting-fit l z p rise);
      });
    }

pub no-map-within : Within no_map
unfolding over_number over_dots over_entries over_values over_waiting over_keys first_in
no-map-within = record {
  valid = valid-as (record { rising = nil; positive = λ d i. absurd (Memᴰ.not-nil i) })
      (record { rising = nil; each = λ e i. absurd (Memᴰ.not-nil i) })
      (record { rising = nil; each = λ r i. absurd (Memᴰ.not-nil i); some = λ r i. absurd (Memᴰ.not-nil i) });
  limits = refl;
}

judged-within : (l : List Record) → Within (judged_map l).map
judged-within l =
    decide (eqb (scan_number 1 6 l) 0)
    (λ t. let z = eqb-true (scan_number 1 6 l) 0 t in decide (related l) (λ r. rw (t, r) (related-within l z r)) (λ n. rw (t, n) no-map-within))
    (λ f. rw f no-map-within)

pub map-within : (s : List ℕ) → Within (read_map s).map
unfolding read_map
map-within s =
    decide (ltb map_longest (length s)) (λ t. rw t no-map-within)
    (λ f. decide (eqb (length s % 16) 0) (λ t. rw (f, t) (judged-within (records_of s))) (λ n. rw (f, n) no-map-within))
