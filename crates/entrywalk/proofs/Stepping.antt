-- A walk along the entries of an image: at each place the first of those that are left lies, and the others behind it.
use mathlib.Core.Path.{◌≡◌, refl, ap, sym, ◌∙◌}
use mathlib.Core.List.Memᴰ
use mathlib.Core.List.{List, [], ◌∷◌}
use Prim.Native.Nat.{ℕ, suc, ◌+◌, ◌*◌, ◌-◌, ◌≤◌, ◌<◌}
use native.Mathlib.Omega.{arith}
use lib.ListN.{length, get_or, length-map}
use borrow.Author.Tests.{ltb-true}
use Rattle.listlaws.specs.Order.{Ascending, by}
use Rattle.listlaws.proofs.Orders.{tail-ascends, head-before}
use Rattle.register.specs.declared.Value.{Value}
use Rattle.limits.specs.Limits.{value_limit}
use Rattle.entries.specs.declared.Entry.{Entry}
use Rattle.entries.specs.Model.{dots_in, values_in}
use Rattle.map.specs.declared.Map.{Map}
use Rattle.map.specs.Model.{entries_in}
use Rattle.map.proofs.Accepts.{fits-means}
use Rattle.records.specs.declared.Record.{Record}
use Rattle.records.specs.Records.{record_from}
use Rattle.clockimage.specs.Image.{dot_record}
use Rattle.opimage.specs.OpImage.{no_record}
use Rattle.mapimage.specs.MapImage.{flat_from, value_records, entry_records}
use Rattle.walks.specs.declared.Layout.{Layout}
use Rattle.walks.specs.Walk.{part, Splits}
use Rattle.layout.specs.Whole.{Lies}
use Rattle.keyed.specs.Keyed.{RecordsLie}
use Rattle.walks.proofs.Loops.{part-on, length_part, sections-end}
use Rattle.layout.proofs.Entered.{record-key, first_key_lem, some-length}
use Rattle.keyed.proofs.Entry.{flat-any, flat-key}
use Rattle.layout.proofs.Found.{cut_at}
use Rattle.keyed.proofs.Walks.{owned-all}
use Rattle.entrywalk.specs.declared.Cursor.{Cursor}
use Rattle.entrywalk.specs.Walking.{span_between, Runs, Ahead, Steps}

-- all entries of an image
abbrev pub start_of : Layout → Cursor
start_of l = record { own = l.second; value = l.third; dot = l.fourth }

pub all-ahead : {s : List ℕ} {m : Map} {l : Layout} → Lies s m l → Ahead s l (start_of l) (entries_in m)
all-ahead {s} {m} {l} h =
    let p = sections-end h.places in
    let valid = h.within.valid.entries.each in
    let fits = (fits-means m h.within.limits).entries in
    record {
      own = owned-all h;
      values = record { order = h.places.third; within = p.fourth; records = sym h.sections.third };
      clocks = record { order = h.places.fourth; within = p.fifth; records = sym h.sections.fourth };
      each = λ e i. record {
        laid = (valid e i).laid;
        clock = (valid e i).clock;
        few = (fits e i).count;
        valid = (valid e i).values;
        short = (fits e
            i).each;
      };
    }

-- one record for each value
pub one_each : (key i : ℕ) (l : List Value) → length (flat_from (value_records 3 key) i l) ≡ length l
unfolding flat_from
one_each key i [] = refl
one_each key i (v ∷ l) = ap suc (one_each key (i + 1) l)

-- a section of entries is cut behind the key of the first
module _ {s : List ℕ} (kind : ℕ) {from end : ℕ} {e : Entry} {es : List Entry}
    (h : RecordsLie s (flat_from (entry_records kind) 0 (e ∷ es)) (span_between from end)) (rising : Ascending (by (λ e. e.key)) (e ∷ es))
    (key : ℕ) (same : key ≡ e.key) (next : ℕ) (before : from ≤ next) (within : next ≤ end) (found : (at : ℕ) → Splits s 1 (key + 1) from end at
    → next ≡ at) where
  pub first_holds : RecordsLie s (entry_records kind 0 e) (span_between from next)
      × RecordsLie s (flat_from (entry_records kind) 0 es) (span_between next end)
  unfolding flat_from
  first_holds =
      let cut = cut_at s 1 (key + 1) from end (entry_records kind 0 e) (flat_from (entry_records kind) 1 es) next h.order h.records
      (λ x m. let q = record-key kind 0 e x m in omega arith)
      (flat-key kind 1 es (λ n. key + 1 ≤ n) (λ x i. let k = ltb-true e.key x.key (head-before rising x i) in omega arith)) found in
      let inside = h.within in (
        record { order = before; within = omega arith; records = cut.first },
        record { order = within; within = inside; records = cut.second ∙ flat-any kind 1 0 es },
      )

-- the entry at a place, whose key is that of its first record
module _ {s : List ℕ} {l : Layout} {x : Cursor} (room : x.own < l.third) (r : Record) (er : r ≡ record_from s (x.own * 16))
    (dots : ℕ) (d0 : x.own ≤ dots) (d1 : dots ≤ l.third) (dots-found : (at : ℕ) → Splits s 1 (r.key + 1) x.own l.third at → dots ≡ at)
    (values : ℕ) (v0 : x.value ≤ values) (v1 : values ≤ l.fourth) (values-found : (at : ℕ) → Splits s 1 (r.key + 1) x.value l.fourth at
    → values ≡ at)
    (clocks : ℕ) (c0 : x.dot ≤ clocks) (c1 : clocks ≤ l.fifth) (clocks-found : (at : ℕ) → Splits s 1 (r.key + 1) x.dot l.fifth at
    → clocks ≡ at) where
  -- what the walk for the values' dots asks, and what then holds
  pub stepping : (es : List Entry) → Ahead s l x es → ((values - x.value ≤ value_limit) × (clocks * 16 ≤ length s))
      × ((starts : List ℕ) → ((key : ℕ) (vs : List Value) → values - x.value ≡ length vs
      → part s x.dot clocks ≡ flat_from (value_records 4 key) 0 vs → Runs s key vs starts)
      → Steps s l x es (record {
        key = r.key;
        dots = span_between x.own dots;
        values = span_between
            x.value values;
        starts = starts;
        next = record { own = dots; value = values; dot = clocks };
      }))
  unfolding flat_from
  stepping [] h = absurd (let z = ap length (sym h.own.records ∙ part-on s x.own l.third room) in omega arith)
  stepping (e ∷ es) h =
      let own = h.own in
      let fit = h.each e (Memᴰ.head refl) in
      let some = own.some e (Memᴰ.head refl) in
      let key : r.key ≡ e.key = ap (λ (x : Record). x.key) er
      ∙ ap (λ k. (get_or k 0 no_record).key) (sym (part-on s x.own l.third room) ∙ own.records)
      ∙ (first_key_lem e.key (dots_in e) (flat_from (entry_records 2) 1 es) some).0 in
      let a = first_holds 2 (record { order = own.order; within = own.within; records = own.records }) own.rising
      r.key key dots d0 d1 dots-found in
      let b = first_holds 3 h.values own.rising r.key key values v0 v1 values-found in
      let c = first_holds 4 h.clocks own.rising r.key key clocks c0 c1 clocks-found in
      let many : values - x.value ≡ length (values_in e) = sym (length_part s x.value values) ∙ ap length b.0.records
      ∙ one_each e.key 0 (values_in e) in
      let few = fit.few in (
        (omega arith, c.0.within),
        λ starts f. record {
          entry = e;
          more = es;
          parts = refl;
          lies = record {
            fit = fit;
            key = key;
            dots = a.0;
            short = own.short e (Memᴰ.head refl);
            values = b.0;
            runs = f e.key (values_in e) many c.0.records;
          };
          onward = let k = some-length (dots_in e) some in omega
              (arith, ap length a.0.records, length_part s x.own dots, length-map (dots_in e) (dot_record 2 0 e.key));
          rest = record {
            own = record {
              order = d1;
              within = own.within;
              records = a.1.records;
              rising = tail-ascends own.rising;
              some = λ y i. own.some y (Memᴰ.tail i);
              short = λ y i. own.short y (Memᴰ.tail i);
            };
            values = b.1;
            clocks = c.1;
            each = λ y i. h.each y (Memᴰ.tail i);
          };
        },
      )
