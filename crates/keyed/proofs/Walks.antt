-- A walk along the dots of all entries, one entry after the other.
use mathlib.Core.Path.{◌≡◌, refl, ap, sym, ◌∙◌}
use mathlib.Core.List.Memᴰ
use mathlib.Core.List.{List, [], ◌∷◌}
use Prim.Native.Nat.{ℕ, ◌+◌, ◌*◌, ◌-◌, ◌≤◌, ◌<◌}
use native.Mathlib.Omega.{arith}
use lib.ListN.{length, take, drop, get_or, length-append, length-map}
use borrow.Author.Tests.{ltb-true}
use Rattle.listlaws.proofs.Orders.{tail-ascends, head-before}
use Rattle.clock.specs.declared.Clock.{Clock}
use Rattle.limits.specs.Limits.{dot_limit}
use Rattle.clock.specs.Dots.{clock_of}
use Rattle.entries.specs.declared.Entry.{Entry}
use Rattle.entries.specs.Model.{dots_in}
use Rattle.map.specs.declared.Map.{Map}
use Rattle.map.specs.Model.{entries_in}
use Rattle.map.proofs.Accepts.{fits-means}
use Rattle.records.specs.declared.Record.{Record}
use Rattle.records.specs.Records.{record_from}
use Rattle.clockimage.specs.Image.{dot_record, dot_records}
use Rattle.opimage.specs.OpImage.{no_record}
use Rattle.mapimage.specs.MapImage.{flat_from, entry_records}
use Rattle.runs.specs.Run.{run_dots}
use Rattle.walks.specs.declared.Layout.{Layout}
use Rattle.walks.specs.Walk.{Splits}
use Rattle.layout.specs.Whole.{Lies}
use Rattle.keyed.specs.Keyed.{Owned, Stops}
use Rattle.walks.proofs.Loops.{part-on, part_end, length_part, sections-end}
use Rattle.layout.proofs.Entered.{record-key, first_key_lem, some-length}
use Rattle.keyed.proofs.Entry.{flat-any, flat-key}
use Rattle.layout.proofs.Found.{cut_at}
use Rattle.keyed.proofs.Registers.{clock-there, short-there}

-- all entries of an image
pub owned-all : {s : List ℕ} {m : Map} {l : Layout} → Lies s m l → Owned s l.second l.third (entries_in m)
owned-all {s} {m} {l} h = record {
  order = h.places.second;
  within = (sections-end h.places).third;
  records = sym h.sections.second;
  rising = h.within.valid.entries.rising;
  some = λ e i. (h.within.valid.entries.each e i).some;
  short = λ e i. ((fits-means m h.within.limits).entries e i).dots;
}

-- none is left at the end
pub owned-end : {s : List ℕ} {at end : ℕ} (l : List Entry) → Owned s at end l → end ≤ at → l ≡ []
unfolding flat_from
owned-end [] h n = refl
owned-end {s} {at} {end} (e ∷ l) h n =
    absurd (let z = ap length (sym h.records ∙ part_end s at end n) in
    let k = some-length (dots_in e) (h.some e (Memᴰ.head refl)) in
    omega (arith, length-append (dot_records 2 0 e.key (dots_in e)) (flat_from (entry_records 2) 1 l), length-map (dots_in e) (dot_record 2 0 e.key)))

-- the first record is of the first entry, and the search behind its key ends where the next begins
module _ {s : List ℕ} {at end : ℕ} (room : at < end) (r : Record) (er : r ≡ record_from s (at * 16)) (next : ℕ) (before : at ≤ next)
    (within : next ≤ end)
    (found : (at' : ℕ) → Splits s 1 (r.key + 1) at end at' → next ≡ at') where
  pub stops : (l : List Entry) → Owned s at end l → (length (take (next * 16 - at * 16) (drop (at * 16) s)) ≤ dot_limit * 16)
      × ((clock : Clock) → clock ≡ clock_of (run_dots (take (next * 16 - at * 16) (drop (at * 16) s)))
      → Stops s at end l (record { key = r.key; clock = clock; next = next }))
  unfolding flat_from
  stops [] h = absurd (let z = ap length (sym h.records ∙ part-on s at end room) in omega arith)
  stops (e ∷ l) h =
      let ds = dots_in e in
      let own = dot_records 2 0 e.key ds in
      let rest = flat_from (entry_records 2) 1 l in
      let some = h.some e (Memᴰ.head refl) in
      let key : r.key ≡ e.key = ap (λ (x : Record). x.key) er ∙ ap (λ k. (get_or k 0 no_record).key) (sym (part-on s at end room) ∙ h.records)
      ∙ (first_key_lem e.key ds rest some).0 in
      let cut = cut_at s 1 (r.key + 1) at end own rest next h.order h.records
      (λ x m. let q = record-key 2 0 e x m in omega arith)
      (flat-key 2 1 l (λ n. r.key + 1 ≤ n) (λ x i. let k = ltb-true e.key x.key (head-before h.rising x i) in omega arith)) found in
      let inside : next * 16 ≤ length s = (let b = h.within in omega arith) in (
        short-there s at next 2 0 e.key ds before inside cut.first (h.short e (Memᴰ.head refl)),
        λ clock c. record {
          entry = e;
          more = l;
          parts = refl;
          key = key;
          clock = c ∙ clock-there s at next 2 0 e.key ds before inside cut.first;
          onward = let k = some-length ds some in omega (
            arith,
            ap length cut.first,
            length_part s at next,
            length-map ds (dot_record 2 0 e.key),
          );
          rest = record {
            order = within;
            within = h.within;
            records = cut.second ∙ flat-any 2 1 0 l;
            rising = tail-ascends h.rising;
            some = λ x i. h.some x (Memᴰ.tail i);
            short = λ x i. h.short x (Memᴰ.tail i);
          };
        },
      )
