-- The records of a map's image read back as they were written; what is left for the map to read back is a matter of records.
use mathlib.Core.Path.{◌≡◌, refl, ap, ◌∙◌}
use mathlib.Core.Bool.{true}
use mathlib.Core.List.{map}
use Prim.Native.Nat.{ℕ, ◌%◌, ◌^◌, ◌<◌}
use native.Mathlib.Omega.{arith}
use borrow.Author.Tests.{lt-ltb, le-ltb, eq-eqb}
use lib.ListN.{length}
use Rattle.listlaws.specs.Order.{◌∈◌}
use Rattle.clock.specs.declared.Dot.{Dot}
use Rattle.map.specs.declared.Map.{Map}
use Rattle.map.specs.Model.{seen_by, entries_in, waiting_in}
use Rattle.map.specs.Valid.{Within}
use Rattle.map.proofs.Accepts.{Fits, fits-means}
use Rattle.records.specs.declared.Record.{Record}
use Rattle.records.specs.Records.{records_of}
use Rattle.records.specs.Kinds.{record_ok}
use Rattle.records.proofs.RoundTrips.{Fitting, read-written, length-bytes}
use Rattle.scan.specs.Numbers.{scan_number}
use Rattle.clockimage.specs.Image.{dot_record, DotFits}
use Rattle.mapimage.specs.MapImage.{map_longest, key_number, number_record, map_records, map_image}
use Rattle.maprecords.specs.Reading.{map_in}
use Rattle.maprecords.specs.Related.{related, judged_map, read_map}
use Rattle.oneimagelaws.specs.Narrow.{Narrow}
use Rattle.oneimagelaws.proofs.Sizes.{image-most}
use Rattle.oneimagelaws.proofs.Stands.{place_in, place-below, Part, clock-dot, entry-dot, value, value-dot, waiting-dot, waiting-key}
use Rattle.oneimagelaws.proofs.Stands.{stands-part}

module _ {m : Map} (h : Within m) where
  -- every record is good by itself
  pub records-ok : (r : Record) → r ∈ map_records m → record_ok 1 6 r ≡ true
  unfolding record_ok
  records-ok r i = go (stands-part (seen_by m) (entries_in m) (waiting_in m) r i)
    where
      go : {r : Record} → Part (seen_by m) (entries_in m) (waiting_in m) r → record_ok 1 6 r ≡ true
      go (clock-dot d i q) = rw (q, lt-ltb 0 d.counter (h.valid.clock.positive d i)) refl
      go (entry-dot e b d i q) = rw (q, lt-ltb 0 d.counter ((h.valid.entries.each e b).clock.positive d i)) refl
      go (value e b j v p q) = rw q refl
      go (value-dot e b j v p d i q) = rw (q, lt-ltb 0 d.counter (((h.valid.entries.each e b).values v (place_in p)).clock.positive d i)) refl
      go (waiting-dot j w p d i q) = rw (q, lt-ltb 0 d.counter ((h.valid.waiting.each w (place_in p)).clock.positive d i)) refl
      go (waiting-key j w p k i q) = rw q refl

module _ {m : Map} (h : Within m) (n : Narrow m) where
  dot-fit : (kind index key : ℕ) {d : Dot} → kind < 256 → index < 256 → key < 2 ^ 32 → DotFits d → Fitting (dot_record kind index key d)
  dot-fit kind index key a b c f = record { kind = omega arith; index = omega arith; actor = f.actor; key = c; number = f.counter }

  -- every record fits its fields
  pub records-fit : (r : Record) → r ∈ map_records m → Fitting r
  records-fit r i = go (stands-part (seen_by m) (entries_in m) (waiting_in m) r i)
    where
      f : Fits m
      f = fits-means m h.limits

      key-fit : (k j : ℕ) → k < 2 ^ 32 → j < 256 → Fitting (number_record (key_number j k))
      key-fit k j p q = record { kind = omega arith; index = omega arith; actor = omega arith; key = omega arith; number = omega arith }

      go : {r : Record} → Part (seen_by m) (entries_in m) (waiting_in m) r → Fitting r
      go (clock-dot d i q) = rw q (dot-fit 1 0 0 (omega arith) (omega arith) (omega arith) (n.clock d i))
      go (entry-dot e b d i q) = rw q (dot-fit 2 0 e.key (omega arith) (omega arith) (n.entries e b).key ((n.entries e b).dots d i))
      go (value e b j v p q) =
          let t = (f.entries e b).count in
          let l = place-below p in
          let c = ((n.entries e b).values v (place_in p)).value in
          rw q (record { kind = omega arith; index = omega arith; actor = c.origin; key = (n.entries e b).key; number = c.number })
      go (value-dot e b j v p d i q) =
          let t = (f.entries e b).count in
          let l = place-below p in
          rw q (dot-fit 4 j e.key (omega arith) (omega arith) (n.entries e b).key (((n.entries e b).values v (place_in p)).dots d i))
      go (waiting-dot j w p d i q) =
          let t = f.number in
          let l = place-below p in
          rw q (dot-fit 5 j 0 (omega arith) (omega arith) (omega arith) ((n.waiting w (place_in p)).dots d i))
      go (waiting-key j w p k i q) =
          let t = f.number in
          let l = place-below p in
          rw q (key-fit k j ((n.waiting w (place_in p)).keys k i) (omega arith))

  -- the bytes give the records again
  pub records-again : records_of (map_image m) ≡ map_records m
  records-again = read-written (map_records m) records-fit

  -- the image reads as the records are judged
  pub judged-again : read_map (map_image m) ≡ judged_map (map_records m)
  unfolding read_map
  judged-again =
      let e : length (map_image m) % 16 ≡ 0 = omega (arith, length-bytes (map_records m)) in
      rw (le-ltb map_longest (length (map_image m)) (image-most h), eq-eqb (length (map_image m) % 16) 0 e) (ap judged_map records-again)

  -- where the records are good, related and stand for the map, the map reads back
  pub reads-again : scan_number 1 6 (map_records m) ≡ 0 → related (map_records m) ≡ true → map_in (map_records m) ≡ m
      → read_map (map_image m) ≡ record { number = 0; map = m }
  reads-again z t e = judged-again ∙ rw (eq-eqb (scan_number 1 6 (map_records m)) 0 z, t) (ap (λ x. record { number = 0; map = x }) e)
