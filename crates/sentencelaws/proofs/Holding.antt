-- Of related records every sentence of 01 holds.
use mathlib.Core.Path.{◌≡◌, refl, ap, sym, ◌∙◌, subst}
use mathlib.Core.Bool.{Bool, true}
use mathlib.Core.List.{List}
use Prim.Native.Nat.{ℕ, ◌<◌}
use native.Mathlib.Omega.{arith}
use lib.ListN.{get_or}
use Rattle.listlaws.specs.Order.{◌∈◌, Ascending}
use Rattle.listlaws.proofs.Orders.{head-before, tail-ascends}
use Rattle.clock.specs.Dots.{dots_of}
use Rattle.clock.proofs.Counters.{counter-member}
use Rattle.clock.proofs.Covers.{covers-means}
use Rattle.entries.specs.declared.Entry.{Entry}
use Rattle.entries.specs.Model.{dots_in, values_in}
use Rattle.removals.specs.Model.{no_removal}
use Rattle.register.specs.Values.{no_value}
use Rattle.map.specs.declared.Map.{Map}
use Rattle.map.specs.Model.{seen_by, entries_in, waiting_in}
use Rattle.map.specs.Valid.{Within}
use Rattle.records.specs.declared.Record.{Record}
use Rattle.scan.specs.Numbers.{scan_number}
use Rattle.clockimage.specs.Image.{dot_record}
use Rattle.mapimage.specs.MapImage.{value_record, map_records}
use Rattle.maprecords.specs.Related.{related}
use Rattle.acceptancelaws.proofs.Maps.{related-within}
use Rattle.oneimagelaws.proofs.Stands.{Place, first, later, place_in, place-below, place-get, value, value-dot}
use Rattle.oneimagelaws.proofs.Reread.{some-dot, stand, of-kind, of-key, entry-stands, waiting-stands, under-again, clock-again}
use Rattle.oneimagelaws.proofs.Rewritten.{records-rewritten}
use Rattle.sentencelaws.specs.Sentences.{Stands, UnderKey, MapSentences}

-- the fields of a record that is known
key_of : {r s : Record} → r ≡ s → s.key ≡ r.key
key_of e = ap (λ (x : Record). x.key) (sym e)

index_of : {r s : Record} → r ≡ s → s.index ≡ r.index
index_of e = ap (λ (x : Record). x.index) (sym e)

-- of two places in an ascending list
places-ascend : {A : Type 0} {before : A → A → Bool} {x y : A} {i j : ℕ} {l : List A} → Ascending before l → Place x i l → Place y j l → i < j
    → before x y ≡ true
places-ascend a (first e) (first f) h = absurd (omega arith)
places-ascend {before = before} {y = y} a (first e) (later q) h = ap (λ z. before z y) e ∙ head-before a y (place_in q)
places-ascend a (later p) (first f) h = absurd (omega arith)
places-ascend a (later p) (later q) h = places-ascend (tail-ascends a) p q (omega arith)

module _ {m : Map} (h : Within m) where
  abbrev l : List Record
  l = map_records m

  entry-there : {e : Entry} {key : ℕ} → e ∈ entries_in m → e.key ≡ key → Stands l (UnderKey 2 key)
  entry-there {e} a k = let d = entry-stands h a in (dot_record 2 0 e.key d.0, d.1, (refl, k))

  pub sentences : MapSentences l
  sentences = record {
    value-needs-dot = λ r i k. let (e, a, j, v, p, q) = of-kind h 3 r i k in
        let d = some-dot (dots_of v.clock) ((h.valid.entries.each e a).values v (place_in p)).some in
        (dot_record 4 j e.key d.0, stand h (value-dot e a j v p d.0 d.1 refl), (refl, (key_of q, index_of q)));
    dot-needs-value = λ r i k. let (e, a, j, v, p, d, b, q) = of-kind h 4 r i k in
        (value_record e.key j v, stand h (value e a j v p refl), (refl, (key_of q, index_of q)));
    value-needs-entry = λ r i k. let (e, a, j, v, p, q) = of-kind h 3 r i k in entry-there a (key_of q);
    dot-needs-entry = λ r i k. let (e, a, j, v, p, d, b, q) = of-kind h 4 r i k in entry-there a (key_of q);
    values-no-gap = λ r i k n b. let (e, a, j, v, p, q) = of-kind h 3 r i k in
        let x = get_or (values_in e) n no_value in (
          value_record e.key n x,
          stand h (value e a n x (place-get (values_in e) n no_value (omega (arith, index_of q, place-below p))) refl),
          (refl, (key_of q, refl)),
        );
    waiting-no-gap = λ r i k n b. let (j, w, p, d, c, q) = of-kind h 5 r i k in
        let s = waiting-stands h (place-get (waiting_in m) n no_removal (omega (arith, index_of q, place-below p))) in
        (dot_record 5 n 0 s.0, s.1, (refl, refl));
    key-needs-clock = λ r i k. let (j, w, p, n, b, q) = of-key h r i k in
        let s = waiting-stands h p in
        (dot_record 5 j 0 s.0, s.1, (refl, index_of q));
    clocks-ascend = λ r s i o k c b. let (j, w, p, d, a, q) = of-kind h 5 r i k in
        let (n, x, u, f, g, t) = of-kind h 5 s o c in
        rw (← index_of q, ← index_of t, under-again h p, under-again h u)
        (places-ascend h.valid.waiting.rising p u (omega (arith, index_of q, index_of t)));
    dots-within = λ r i k. let (e, a, d, b, q) = of-kind h 2 r i k in
        let v = h.valid.entries.each e a in
        rw (q, clock-again h) (omega (arith, covers-means (seen_by m) (dots_in e) v.covered d.actor, counter-member v.clock b));
  }

pub holding : (l : List Record) → scan_number 1 6 l ≡ 0 → related l ≡ true → MapSentences l
holding l z t = subst MapSentences (records-rewritten l z t) (sentences (related-within l z t))
