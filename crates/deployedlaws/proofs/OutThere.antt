-- What the controllers that are out there answer of each image that is accepted today, and that theirs are good.
use mathlib.Core.Path.{◌≡◌, refl, ap, sym, ◌∙◌}
use mathlib.Core.Bool.{Bool, true, false, cond}
use mathlib.Core.List.{List}
use Prim.Native.Nat.{ℕ, ◌%◌, ◌≤◌, ◌<◌}
use native.Mathlib.Omega.{arith}
use lib.Dec.{eqb, ltb}
use lib.ListN.{length}
use borrow.Author.Tests.{lt-ltb, le-ltb, eq-eqb, ltb-false, eqb-true}
use Rattle.listlaws.specs.Order.{◌∈◌}
use Rattle.map.specs.Model.{entries_in, waiting_in}
use Rattle.records.specs.declared.Record.{Record}
use Rattle.records.specs.Records.{records_of}
use Rattle.records.specs.Bytes.{Bytes}
use Rattle.scan.specs.Formed.{well_formed}
use Rattle.scan.specs.Limits.{today, within_by}
use Rattle.scan.proofs.Eachs.{decide}
use Rattle.mapimage.specs.MapImage.{longest_by, map_longest, map_image, map_records}
use Rattle.maprecords.specs.Related.{ReadMap}
use Rattle.maprecords.specs.Reading.{map_in}
use Rattle.maprecords.specs.Related.{related, refused_map, read_map}
use Rattle.oneimagelaws.proofs.Maps.{one-map-image}
use Rattle.oneimagelaws.proofs.Written.{records-again}
use Rattle.limitlaws.specs.Readers.{read_under}
use Rattle.limitlaws.specs.Sleds.{old_sleds}
use Rattle.limitlaws.specs.Widening.{Below, Over}
use Rattle.limitlaws.proofs.Accepting.{Read, reads-today, accepted-means, accepted-holds, still_read, over-refused}
use Rattle.limitlaws.proofs.Images.{old-answer}
use Rattle.limitlaws.proofs.Maps.{image-read}
use Rattle.originlaws.specs.Before.{old_formed, old_within, old_map}
use Rattle.originlaws.specs.Origins.{NoOrigins, SomeOrigin}
use Rattle.originlaws.proofs.Records.{Unnamed}
use Rattle.originlaws.proofs.Lists.{all-unnamed, still_formed, same-within-by}
use Rattle.originlaws.proofs.Origins.{origins}
use Rattle.deployedlaws.specs.OutThere.{first_map, OutThere}
use Rattle.deployedlaws.proofs.Unnamed.{map-unnamed, was-formed}

-- today's limits are not smaller
below : Below old_sleds today
below = record { entries = omega arith; waiting = omega arith }

abbrev meaning : List Record → ReadMap
meaning l = record { number = 0; map = map_in l }

-- the verdict on records, by three tests
abbrev verdict : Bool → Bool → Bool → List Record → ReadMap
verdict a b c l = cond a (cond b (cond c (meaning l) (refused_map 3)) (refused_map 2)) (refused_map 1)

module _ (s : List ℕ) where
  abbrev l : List Record
  l = records_of s

  -- what is accepted today passes every test
  accepted : (read_map s).number ≡ 0 → Read today s
  accepted z = accepted-means today s (ap (λ r. r.number) (reads-today s) ∙ z)

  meant : (read_map s).number ≡ 0 → read_map s ≡ meaning l
  meant z = sym (reads-today s) ∙ accepted-holds (accepted z)

  -- its reader of then, where the length does not settle it
  by-verdict : length s ≤ longest_by old_sleds → length s % 16 ≡ 0 → first_map s ≡ verdict (old_formed 1 6 l) (old_within old_sleds l) (related l) l
  unfolding first_map
  by-verdict h w = rw (le-ltb (longest_by old_sleds) (length s) h, eq-eqb (length s % 16) 0 w)

  too_long : longest_by old_sleds < length s → first_map s ≡ refused_map 2
  unfolding first_map
  too_long h = rw (lt-ltb (longest_by old_sleds) (length s) h)

  -- where no value has an origin, it is the reader of today with the limits of then
  as-under : (read_map s).number ≡ 0 → ((x : Record) → x ∈ l → Unnamed x) → first_map s ≡ read_under old_sleds s
  unfolding first_map read_under
  as-under z u =
      let r = accepted z in
      let f = was-formed l r.formed u in
      rw (f, same-within-by old_sleds l u, r.formed)

  unnamed : Bytes s → (read_map s).number ≡ 0 → NoOrigins (read_map s).map → (x : Record) → x ∈ l → Unnamed x
  unnamed b z n x i =
      let g = one-map-image.again s b z in
      let e : l ≡ map_records (read_map s).map = ap records_of (sym g.1) ∙ records-again g.0.within g.0.narrow in
      map-unnamed (read_map s).map n x (rw e at i)

  -- where one has, the records were not well formed
  not-formed : (read_map s).number ≡ 0 → SomeOrigin (read_map s).map → old_formed 1 6 l ≡ false
  unfolding old_map
  not-formed z o =
      let r = accepted z in
      let e = rw (le-ltb map_longest (length s) r.short, eq-eqb (length s % 16) 0 r.whole) at (origins.map-refused s z o) in
      decide (old_formed 1 6 l)
      (λ t. absurd (decide (old_within today l)
      (λ u. decide (related l) (λ v. let q = ap (λ (x : ReadMap). x.number) (rw (t, u, v) at e) in omega arith)
      (λ v. let q = ap (λ (x : ReadMap). x.number) (rw (t, u, v) at e) in omega arith))
      (λ u. let q = ap (λ (x : ReadMap). x.number) (rw (t, u) at e) in omega arith)))
      (λ f. f)

  -- an image that it accepted passes every test of then
  pub record Then : Type 0 where
    pub short : length s ≤ longest_by old_sleds
    pub whole : length s % 16 ≡ 0
    pub formed : old_formed 1 6 l ≡ true
    pub few : old_within old_sleds l ≡ true
    pub fit : related l ≡ true

  three : (a b c : Bool) → (verdict a b c l).number ≡ 0 → (a ≡ true) × ((b ≡ true) × (c ≡ true))
  three true true true z = (refl, (refl, refl))
  three true true false z = absurd (omega arith)
  three true false c z = absurd (omega arith)
  three false b c z = absurd (omega arith)

  accepted-then : (first_map s).number ≡ 0 → Then
  unfolding first_map
  accepted-then z =
      decide (ltb (longest_by old_sleds) (length s)) (λ a. absurd (let q = rw a at z in omega arith))
      (λ a. decide (eqb (length s % 16) 0)
      (λ b. let t = three (old_formed 1 6 l) (old_within old_sleds l) (related l) (rw (a, b) at z) in
      record {
        short = ltb-false (longest_by old_sleds) (length s) a;
        whole = eqb-true (length s % 16) 0 b;
        formed = t.0;
        few = t.1.0;
        fit = t.1.1;
      })
      (λ b. absurd (let q = rw (a, b) at z in omega arith)))

  read-then : Then → Read old_sleds s
  read-then t = record {
    short = t.short;
    whole = t.whole;
    formed = still_formed 1 6 l t.formed;
    few = sym (same-within-by old_sleds l (all-unnamed 1 6 l t.formed)) ∙ t.few;
    fit = t.fit;
  }

  first-means : Then → first_map s ≡ meaning l
  first-means t = by-verdict t.short t.whole ∙ rw (t.formed, t.few, t.fit)

  today-means : Then → read_map s ≡ meaning l
  today-means t = sym (reads-today s) ∙ accepted-holds (still_read below (read-then t))

  -- and those of the reader of before there were origins, at the limits of today
  old-accepts : Then → (old_map s).number ≡ 0
  unfolding old_map
  old-accepts t =
      let r = still_read below (read-then t) in
      let few = same-within-by today l (all-unnamed 1 6 l t.formed) ∙ r.few in
      rw (le-ltb map_longest (length s) r.short, eq-eqb (length s % 16) 0 t.whole, t.formed, few, t.fit)

-- the end theorem of this crate
pub out-there : OutThere
out-there = record {
  longer = λ s z h. too_long s h;
  named = λ s z h o. by-verdict s h (accepted s z).whole ∙ rw (not-formed s z o);
  larger = λ s b z n o. as-under s z (unnamed s b z n)
      ∙ over-refused old_sleds (accepted s z) (rw (meant s z) at o);
  same = λ s b z n e w. as-under s z (unnamed s b z n) ∙ fitting s b z e w;
  still = λ s z. let t = accepted-then s z in today-means s t ∙ sym (first-means s t);
  zero = λ s z. origins.map-zero s (old-accepts s (accepted-then s z));
  unchanged = λ s b z. origins.map-unchanged s b (old-accepts s (accepted-then s z));
}
  where
    fitting : (s : List ℕ) → Bytes s → (read_map s).number ≡ 0 → length (entries_in (read_map s).map) ≤ 16
        → length (waiting_in (read_map s).map) ≤ 8 → read_under old_sleds s ≡ read_map s
    fitting s b z e w =
        let g = one-map-image.again s b z in
        let r : Read old_sleds (map_image (read_map s).map) = image-read (record { good = g.0; entries = e; waiting = w }) in
        accepted-holds (rw g.1 at r) ∙ sym (meant s z)
