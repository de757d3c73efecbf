-- The records of a map's image stand for the map.
use mathlib.Core.Path.{◌≡◌, refl, ap, ap₂, sym, ◌∙◌}
use mathlib.Core.Bool.{false}
use mathlib.Core.List.Memᴰ
use mathlib.Core.List.{List, [], ◌∷◌, map}
use Prim.Native.Nat.{ℕ, ◌+◌, ◌<◌}
use native.Mathlib.Omega.{arith}
use lib.Dec.{eqb, ltb}
use lib.ListN.{length}
use borrow.Author.Tests.{eq-eqb, eqb-true, eqb-false, ltb-true, ltb-false}
use Rattle.listlaws.specs.Order.{◌∈◌, Ascending, nil, next, by}
use Rattle.listlaws.specs.Sift.{those}
use Rattle.listlaws.proofs.Orders.{same-members, by-strict, head-before, tail-ascends}
use Rattle.listlaws.proofs.Ranks.{same_rank, ranks-ascend}
use Rattle.clock.specs.declared.Dot.{Dot}
use Rattle.clock.specs.Dots.{dots_of, clock_of, is_empty}
use Rattle.register.specs.declared.Value.{Value}
use Rattle.entries.specs.declared.Entry.{Entry}
use Rattle.removals.specs.declared.Removal.{Removal}
use Rattle.entries.specs.Model.{entry_as, dots_in, values_in}
use Rattle.removals.specs.Model.{under_of, listed_in, removal_as, no_removal}
use Rattle.map.specs.declared.Map.{Map}
use Rattle.map.specs.Model.{seen_by, entries_in, waiting_in, map_as}
use Rattle.map.specs.Valid.{Within}
use Rattle.map.proofs.Accepts.{fits-means}
use Rattle.records.specs.declared.Record.{Record}
use Rattle.records.specs.Kinds.{before}
use Rattle.records.proofs.RoundTrips.{by-fields}
use Rattle.scan.proofs.Eachs.{decide, both}
use Rattle.clockimage.specs.Image.{is_kind, dot_record, dot_of, dots_from}
use Rattle.clockimage.proofs.RoundTrip.{dots-ascend}
use Rattle.opimage.specs.OpImage.{key_record}
use Rattle.mapimage.specs.MapImage.{value_record, key_number, number_record, map_records}
use Rattle.maprecords.specs.Reading.{under_key, under_index, under_both, places_from, value_in, values_under, entry_in, entry_keys, entries_for}
use Rattle.maprecords.specs.Reading.{waiting_count}
use Rattle.maprecords.specs.Reading.{waiting_removal_in, numbers_below, waiting_for, map_in}
use Rattle.clockimage.specs.ClockImage.{clock_in}
use Rattle.maprecords.proofs.Counts.{indexes-below}
use Rattle.acceptancelaws.proofs.Limited.{at_key, at_both, at-index}
use Rattle.oneimagelaws.proofs.Rising.{by_key, by_index, records-ascend}
use Rattle.oneimagelaws.proofs.Stands.{Place, place_in, place-below, place-get, place-one, Part, clock-dot, entry-dot, value, value-dot}
use Rattle.oneimagelaws.proofs.Stands.{waiting-dot, waiting-key, PartOf, part-stands, part_of}
use Rattle.oneimagelaws.proofs.Selected.{made_again, selected, selected-back}
use Rattle.oneimagelaws.proofs.Places.{places-has, places-means, places-rise, places-back, by-places}
use Rattle.oneimagelaws.proofs.Keyed.{keys-has, keys-means, keys-rise, count_most}

-- a clock that is not empty has a dot
pub some-dot : (l : List Dot) → is_empty l ≡ false → (d : Dot) × (d ∈ l)
unfolding is_empty
some-dot [] e = absurd (eqb-false 0 0 e refl)
some-dot (d ∷ l) e = (d, Memᴰ.head refl)

-- a waiting key's record by its fields
pub key-record : (j k : ℕ) → j < 256 → number_record (key_number j k) ≡ key_record 6 j k
key-record j k h = by-fields refl (omega arith) refl (omega arith) refl

keys-ascend : (j : ℕ) (l : List ℕ) → Ascending (by (λ k. k)) l → Ascending before (map (key_record 6 j) l)
keys-ascend j [] a = nil
keys-ascend j (x ∷ l) a =
    next {x = key_record 6 j x} (λ r i. let y = Memᴰ.of_map (key_record 6 j) l i in
    rw (← y.2) (by_key (key_record 6 j x) (key_record 6 j y.0) refl (ltb-true x y.0 (head-before a y.0 y.1))))
    (keys-ascend j l (tail-ascends a))

module _ {m : Map} (h : Within m) where
  -- a part's record stands in the image, and a record of a kind is of such a part
  pub stand : {r : Record} → Part (seen_by m) (entries_in m) (waiting_in m) r → r ∈ map_records m
  stand p = part-stands (seen_by m) (entries_in m) (waiting_in m) p

  pub of-kind : (kind : ℕ) (r : Record) → r ∈ map_records m → r.kind ≡ kind → PartOf (seen_by m) (entries_in m) (waiting_in m) kind r
  of-kind = part_of (seen_by m) (entries_in m) (waiting_in m)

  pub clock-again : clock_in (map_records m) ≡ seen_by m
  clock-again =
      selected-back (is_kind 1) (records-ascend h) (dot_record 1 0 0) dot_of (seen_by m) (dots-ascend 1 0 0 refl (seen_by m) h.valid.clock.rising)
      (λ d. refl)
      (λ r i t. of-kind 1 r i (eqb-true r.kind 1 t)) (λ d i. (stand (clock-dot d i refl), refl))

  -- one entry to a key
  module _ {e : Entry} (i : e ∈ entries_in m) where
    pub same-entry : {x : Entry} → x ∈ entries_in m → x.key ≡ e.key → x ≡ e
    same-entry j q = same_rank (λ (e : Entry). e.key) h.valid.entries.rising j i q

    dots-again : dots_from (under_key 2 e.key) (map_records m) ≡ dots_in e
    dots-again =
        selected-back (under_key 2 e.key) (records-ascend h) (dot_record 2 0 e.key) dot_of (dots_in e)
        (dots-ascend 2 0 e.key refl (dots_in e) (h.valid.entries.each e i).clock.rising) (λ d. refl)
        (λ r j t. let k = at_key e.key 2 r t in
        let (x, a, d, b, q) = of-kind 2 r j k.0 in
        let s = same-entry a (ap (λ (r : Record). r.key) (sym q) ∙ k.1) in
        (d, rw s at b, rw s at q))
        (λ d j. (stand (entry-dot e i d j refl), eq-eqb e.key e.key refl))

    pub values-stand : those (under_key 3 e.key) (map_records m) ≡ places_from (value_record e.key) 0 (values_in e)
    values-stand =
        selected (under_key 3 e.key) (records-ascend h)
        (places-rise (value_record e.key) (λ j k x y p. by_index (value_record e.key j x) (value_record e.key k y) refl refl p) 0 (values_in e))
        (λ r j t. let k = at_key e.key 3 r t in
        let (x, a, n, v, p, q) = of-kind 3 r j k.0 in
        let s = same-entry a (ap (λ (r : Record). r.key) (sym q) ∙ k.1) in
        Memᴰ.cast (rw s at q) (places-has (value_record e.key) (rw s at p)))
        (λ r j. let y = places-means (value_record e.key) 0 (values_in e) r j in
        let same : 0 + y.place ≡ y.place = omega arith in
        (stand (value e i y.place y.source y.stands (rw same at y.given)), rw y.given (eq-eqb e.key e.key refl)))

    value-dots-again : (v : Value) (j : ℕ) → Place v j (values_in e) → dots_from (under_both 4 e.key j) (map_records m) ≡ dots_of v.clock
    value-dots-again v j p =
        selected-back (under_both 4 e.key j) (records-ascend h) (dot_record 4 j e.key) dot_of (dots_of v.clock)
        (dots-ascend 4 j e.key refl (dots_of v.clock) ((h.valid.entries.each e i).values v (place_in p)).clock.rising) (λ d. refl)
        (λ r g t. let k = at_both e.key j r t in
        let (x, a, n, u, z, d, b, q) = of-kind 4 r g k.0.0 in
        let s = same-entry a (ap (λ (r : Record). r.key) (sym q) ∙ k.0.1) in
        let here : n ≡ j = ap (λ (r : Record). r.index) (sym q) ∙ k.1 in
        let one : u ≡ v = place-one (rw (s, here) at z) p in
        (d, rw one at b, rw (s, here) at q))
        (λ d g. (stand (value-dot e i j v p d g refl), both (eqb e.key e.key) (eqb j j) (eq-eqb e.key e.key refl) (eq-eqb j j refl)))

    values-again : values_under (map_records m) e.key ≡ values_in e
    values-again =
        ap (places_from (value_in (map_records m) e.key) 0) values-stand
        ∙ places-back (value_record e.key) (value_in (map_records m) e.key) (values_in e)
        (λ v j p. ap (λ c. record { clock = clock_of c; value = v.value }) (value-dots-again v j p)
        ∙ sym ((h.valid.entries.each e i).values v (place_in p)).laid)

    entry-again : entry_in (map_records m) e.key ≡ e
    entry-again = ap₂ (entry_as e.key) dots-again values-again ∙ sym (h.valid.entries.each e i).laid

    -- an entry has a dot
    pub entry-stands : (d : Dot) × (dot_record 2 0 e.key d ∈ map_records m)
    entry-stands = let y = some-dot (dots_in e) (h.valid.entries.each e i).some in (y.0, stand (entry-dot e i y.0 y.1 refl))

  keys-again : entry_keys (map_records m) ≡ map (λ e. e.key) (entries_in m)
  keys-again =
      same-members (by-strict (λ n. n)) (entry_keys (map_records m)) (map (λ e. e.key) (entries_in m)) (keys-rise (map_records m) (records-ascend h))
      (ranks-ascend (λ e. e.key) h.valid.entries.rising)
      (λ k i. let (s, j, a, q) = keys-means (map_records m) k i in
      let (e, b, d, c, u) = of-kind 2 s j a in
      Memᴰ.cast (sym q ∙ ap (λ (r : Record). r.key) u) (Memᴰ.map (λ (e : Entry). e.key) b))
      (λ k i. let y = Memᴰ.of_map (λ (e : Entry). e.key) (entries_in m) i in
      let z = entry-stands y.1 in
      rw (← y.2) (keys-has (map_records m) (dot_record 2 0 y.0.key z.0) z.1 refl))

  pub entries-again : entries_for (map_records m) ≡ entries_in m
  entries-again = ap (map (entry_in (map_records m))) keys-again ∙ made_again (λ (e : Entry). e.key) (entry_in (map_records m)) (entries_in m)
      (λ e i. entry-again i)

  -- a waiting removal at its place
  module _ {q : Removal} {j : ℕ} (p : Place q j (waiting_in m)) where
    pub index-low : j < 256
    index-low = let f = (fits-means m h.limits).number in let b = place-below p in omega arith

    pub under-again : dots_from (under_index 5 j) (map_records m) ≡ under_of q
    under-again =
        selected-back (under_index 5 j) (records-ascend h) (dot_record 5 j 0) dot_of (under_of q)
        (dots-ascend 5 j 0 refl (under_of q) (h.valid.waiting.each q (place_in p)).clock.rising) (λ d. refl)
        (λ r i t. let k = at-index j 5 r t in
        let (n, x, z, d, b, e) = of-kind 5 r i k.0 in
        let here : n ≡ j = ap (λ (r : Record). r.index) (sym e) ∙ k.1 in
        let one : x ≡ q = place-one (rw here at z) p in
        (d, rw one at b, rw here at e))
        (λ d i. (stand (waiting-dot j q p d i refl), eq-eqb j j refl))

    -- it has a dot
    pub waiting-stands : (d : Dot) × (dot_record 5 j 0 d ∈ map_records m)
    waiting-stands = let y = some-dot (under_of q) (h.valid.waiting.some q (place_in p)) in (y.0, stand (waiting-dot j q p y.0 y.1 refl))

  -- a waiting key's record, by its fields
  pub of-key : (r : Record) → r ∈ map_records m → r.kind ≡ 6 → (j : ℕ) × (q : Removal) × Place q j (waiting_in m) × (k : ℕ) × (k ∈ listed_in q)
      × (r ≡ key_record 6 j k)
  of-key r i k = let (j, q, p, n, b, e) = of-kind 6 r i k in (j, q, p, n, b, e ∙ key-record j n (index-low p))

  module _ {q : Removal} {j : ℕ} (p : Place q j (waiting_in m)) where
    listed-again : map (λ r. r.key) (those (under_index 6 j) (map_records m)) ≡ listed_in q
    listed-again =
        selected-back (under_index 6 j) (records-ascend h) (key_record 6 j) (λ r. r.key) (listed_in q)
        (keys-ascend j (listed_in q) (h.valid.waiting.each q (place_in p)).keys) (λ k. refl)
        (λ r i t. let k = at-index j 6 r t in
        let (n, x, z, y, b, e) = of-key r i k.0 in
        let here : n ≡ j = ap (λ (r : Record). r.index) (sym e) ∙ k.1 in
        let one : x ≡ q = place-one (rw here at z) p in
        (y, rw one at b, rw here at e))
        (λ k i. (Memᴰ.cast (sym (key-record j k (index-low p))) (stand (waiting-key j q p k i refl)), eq-eqb j j refl))

    removal-again : waiting_removal_in (map_records m) j ≡ q
    removal-again = ap₂ removal_as (under-again p) listed-again ∙ sym (h.valid.waiting.each q (place_in p)).laid

  count-again : waiting_count (map_records m) ≡ length (waiting_in m)
  count-again =
      let most = count_most (map_records m) (length (waiting_in m)) (λ s i k. let (j, q, p, d, b, e) = of-kind 5 s i k in
      let same = ap (λ (r : Record). r.index) e in let u = place-below p in omega arith) in
      decide (ltb (waiting_count (map_records m)) (length (waiting_in m)))
      (λ t. let y = waiting-stands (place-get (waiting_in m) (waiting_count (map_records m)) no_removal (ltb-true _ _ t)) in
      absurd (omega (arith, indexes-below (map_records m) (dot_record 5 (waiting_count (map_records m)) 0 y.0) y.1 refl)))
      (λ f. omega (arith, ltb-false (waiting_count (map_records m)) (length (waiting_in m)) f))

  pub waiting-again : waiting_for (map_records m) ≡ waiting_in m
  waiting-again = ap (λ n. map (waiting_removal_in (map_records m)) (numbers_below n)) count-again
      ∙ by-places (waiting_removal_in (map_records m)) no_removal (waiting_in m) (λ q j p. removal-again p)

  -- the map again
  pub map-again : map_in (map_records m) ≡ m
  map-again = (λ i. map_as (clock-again i) (entries-again i) (waiting-again i)) ∙ sym h.valid.laid
