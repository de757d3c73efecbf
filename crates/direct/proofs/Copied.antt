-- The image of a key is the records that lie in the whole, one behind the other.
use mathlib.Core.Path.{◌≡◌, refl, sym, ◌∙◌}
use mathlib.Core.List.{List, [], ◌++◌, append-nil}
use Prim.Native.Nat.{ℕ, ◌+◌, ◌*◌, ◌-◌}
use native.Mathlib.Omega.{arith}
use lib.ListN.{length, take, drop, length-append}
use Rattle.listlaws.specs.Fold.{fold}
use Rattle.entries.specs.Entries.{entry_at}
use Rattle.entries.proofs.Packs.{entries-of}
use Rattle.removals.proofs.Packs.{waiting-of}
use Rattle.map.specs.declared.Map.{Map}
use Rattle.map.specs.Model.{seen_by, entries_in}
use Rattle.asking.specs.Asking.{read_key}
use Rattle.records.specs.Bytes.{Bytes}
use Rattle.records.specs.Records.{bytes_of}
use Rattle.records.specs.declared.Record.{Record}
use Rattle.records.proofs.RoundTrips.{write-from}
use Rattle.clockimage.specs.Image.{dot_records}
use Rattle.mapimage.specs.Sorted.{in_order}
use Rattle.mapimage.specs.MapImage.{flat_from, entry_records, waiting_dots, waiting_keys, map_records}
use Rattle.walks.specs.declared.Layout.{Layout}
use Rattle.walks.specs.declared.Span.{Span}
use Rattle.keyed.specs.declared.Spans.{Spans}
use Rattle.layout.specs.Whole.{Lies}
use Rattle.keyed.specs.Keyed.{RecordsLie, EntryLies}
use Rattle.walks.proofs.Loops.{length_part, sections-end}
use Rattle.keyed.proofs.Entry.{held_at, held-records}
use Rattle.direct.specs.Reading.{Inside, records_at, key_records}

-- the bytes of a span are those of its records
pub span-bytes : (s : List ℕ) (r : Span) → Bytes s → Inside s r → take (r.to * 16 - r.from * 16) (drop (r.from * 16) s) ≡ bytes_of (records_at s r)
span-bytes s r b h =
    let o = h.order in
    let w = h.within in
    let n : r.to * 16 - r.from * 16 ≡ (r.to - r.from) * 16 = omega arith in
    rw n (sym (write-from s (r.to - r.from) (r.from * 16) b (omega arith)))

-- nothing waits in the image of a key
none-waits : flat_from waiting_dots 0 [] ++ waiting_keys [] ≡ []
unfolding flat_from in_order fold
none-waits = refl

only : (m : Map) (key : ℕ) → map_records (read_key m key) ≡ dot_records 1 0 0
    (seen_by m) ++ (flat_from (entry_records 2) 0 (held_at key (entries_in m))
    ++ (flat_from (entry_records 3) 0 (held_at key (entries_in m)) ++ flat_from
    (entry_records 4) 0 (held_at key (entries_in m))))
unfolding read_key
only m key =
    let t = held_at key (entries_in m) in
    rw (entries-of t, waiting-of [], none-waits, append-nil (flat_from (entry_records 4) 0 t))

inside : {s : List ℕ} {k : List Record} {r : Span} → RecordsLie s k r → Inside s r
inside q = record { order = q.order; within = q.within }

-- where the map clock's records stand
abbrev pub clock_span : Layout → Span
clock_span l = record { from = 0; to = l.second }

module _ {s : List ℕ} {m : Map} {l : Layout} (key : ℕ) {at : Spans} (h : Lies s m l) (e : EntryLies s (entry_at key (entries_in m)) at) where
  pub key-is : map_records (read_key m key) ≡ key_records s (clock_span l) at
  key-is =
      let up = h.within.valid.entries.rising in
      only m key
      ∙ rw (
        held-records 2 key up,
        held-records 3 key up,
        held-records 4 key up,
        h.sections.first,
        e.dots.records,
        e.register.third.records,
        e.register.fourth.records,
        e.key,
      )

  pub spans-inside : Inside s (clock_span l) × (Inside s at.dots × (Inside s at.values × Inside s at.clocks))
  spans-inside = (
    record { order = omega arith; within = (sections-end h.places).second },
    (inside e.dots, (inside e.register.third, inside e.register.fourth)),
  )

  pub key-length : length (key_records s (clock_span l) at)
      ≡ (l.second - 0) + ((at.dots.to - at.dots.from) + ((at.values.to - at.values.from) + (at.clocks.to - at.clocks.from)))
  key-length = simp (length-append, length_part)
