-- The map that a memory holds, with one record more where it belongs.
use mathlib.Core.Path.{◌≡◌, refl, ap, ap₂, sym, ◌∙◌, subst}
use mathlib.Core.Bool.{Bool, true, false}
use mathlib.Core.Logic.{⊎_elim}
use mathlib.Core.List.Memᴰ
use mathlib.Core.List.{List, [], ◌∷◌, ◌++◌, map}
use Prim.Native.Nat.{ℕ, ◌+◌, ◌*◌, ◌-◌, ◌≤◌, ◌<◌, min}
use native.Mathlib.Omega.{arith}
use lib.Dec.{eqb, ltb}
use lib.ListN.{length, get_or, set, length-map}
use borrow.Author.Tests.{lt-ltb, le-ltb, ltb-true, ltb-false, eqb-true, eqb-false}
use Rattle.listlaws.specs.Order.{◌∈◌}
use Rattle.listlaws.specs.First.{some}
use Rattle.listlaws.specs.Sift.{those}
use Rattle.listlaws.proofs.Firsts.{Hit, first-cases, first-none}
use Rattle.listlaws.proofs.Somes.{false-some}
use Rattle.clock.specs.declared.Dot.{Dot}
use Rattle.clock.specs.Dots.{clock_of}
use Rattle.clock.proofs.Packs.{dots-of}
use Rattle.register.specs.declared.Value.{Value}
use Rattle.limits.specs.Limits.{value_limit, entry_limit, waiting_limit, key_limit}
use Rattle.register.specs.Values.{no_value, register_of}
use Rattle.register.proofs.Packs.{values-of}
use Rattle.entries.specs.declared.Entry.{Entry}
use Rattle.removals.specs.declared.Removal.{Removal}
use Rattle.entries.specs.Model.{no_entry, entry_as}
use Rattle.removals.specs.Model.{no_removal, removal_as, keys_as}
use Rattle.removals.proofs.Packs.{keys_from}
use Rattle.records.specs.declared.Record.{Record}
use Rattle.records.specs.Bytes.{num_at}
use Rattle.records.proofs.RoundTrips.{Fitting}
use Rattle.scan.specs.Numbers.{scan_number}
use Rattle.scan.proofs.Eachs.{decide}
use Rattle.clockimage.specs.Image.{dot_of, content_of, dots_from}
use Rattle.maprecords.specs.Reading.{numbers_below, under_key, under_both, under_index, values_under, entry_in, entry_keys, entries_for}
use Rattle.maprecords.specs.Reading.{waiting_count}
use Rattle.maprecords.specs.Reading.{waiting_removal_in, waiting_for}
use Rattle.clockimage.specs.ClockImage.{clock_in}
use Rattle.maprecords.specs.SoFar.{MapSoFar}
use Rattle.maprecords.proofs.Keys.{get-map}
use Rattle.maprecords.proofs.Counts.{entry-dots-room, value-dots-room, waiting-dots-room, entries-room}
use Rattle.maprecords.proofs.Finding.{entry_at}
use Rattle.maprecords.proofs.SoFar.{EntriesNow, WaitingNow, Growable}
use Rattle.maprecords.proofs.Steps as steps
use Rattle.maprecords.proofs.Waits as waits
use Rattle.maprecords.proofs.Readers as readers
use Rattle.memory.specs.Memory.{reader_room, lost_place, entries_place, waits_place, clock_place, clock_room, entry_room, removal_room, entry_place}
use Rattle.memory.specs.Memory.{own_place, values_place, value_place, removal_place, keys_place, key_place, scan_at, dots_at, value_at, values_at}
use Rattle.memory.specs.Memory.{key_at}
use Rattle.memory.specs.Memory.{entry_held_at, entry_count, entries_at, listed_at, removal_at, waiting_count_at, waiting_at}
use Rattle.memory.specs.Putting.{dot_put, lose, entry_begun, value_put, value_dot_put, entry_place_of, known_put, entry_put, removal_begun, key_put}
use Rattle.memory.specs.Putting.{waiting_put, record_put}
use Rattle.memory.specs.Reader.{under_at, reader_at}
use Rattle.memory.proofs.Regions.{Same, same-part, same_then, same-num, Touched, touched-then, touched-wide, below-touched, above-touched}
use Rattle.memory.proofs.Regions.{touched-put, put-read}
use Rattle.memory.proofs.Views.{length-of, below_at, same-dots, same_entries, same-waiting}
use Rattle.memory.proofs.Puts.{dot-touched, dot-more, EntryNow, own-now, value-now, value-dot-now, entry-stored, made-touched, begun-touched}
use Rattle.memory.proofs.Puts.{entry-added, RemovalNow, waiting-dot-now, waiting-key-now, removal-stored, laid-touched, removal-touched}
use Rattle.memory.proofs.Puts.{removal-added}
use Rattle.memory.proofs.Scans.{scan-same, under_same}

-- what is packed the same is the same
dots-like : (a b : List Dot) → clock_of a ≡ clock_of b → a ≡ b
dots-like a b e = sym (dots-of a refl) ∙ dots-of b e

values-like : (a b : List Value) → register_of a ≡ register_of b → a ≡ b
values-like a b e = sym (values-of a refl) ∙ values-of b e

keys-like : (a b : List ℕ) → keys_as a ≡ keys_as b → a ≡ b
keys-like a b e = sym (keys_from a refl) ∙ keys_from b e

-- where the map and what belongs to it stand
abbrev pub map_room : ℕ
map_room = reader_room - lost_place

-- u holds the map of the records l, and is v elsewhere
pub record Grown (l : List Record) (v u : List ℕ) : Type 0 where
  pub touched : Touched lost_place map_room v u
  pub so_far : MapSoFar l (reader_at u)

-- a reader whose parts are those of a memory
pub became : (l : List Record) {u v : List ℕ} → Touched lost_place map_room v u
    → {lost : Bool} {clock : List Dot} {entries : List Entry} {waiting : List Removal}
    → MapSoFar l (record { scan = scan_at v; under = under_at v; lost = lost; clock = clock; entries = entries; waiting = waiting })
    → lost ≡ (reader_at u).lost → clock ≡ (reader_at u).clock → entries ≡ (reader_at u).entries → waiting ≡ (reader_at u).waiting → Grown l v u
became l {u} {v} t m a b c d =
    let s = below-touched 0 lost_place t (omega arith) in
    let x = sym (scan-same s (omega arith) (omega arith)) in
    let y = sym (under_same s (omega arith) (omega arith)) in
    record {
      touched = t;
      so_far = subst (MapSoFar l) (λ i. record { scan = x i; under = y i; lost = a i; clock = b i; entries = c i; waiting = d i })
          m;
    }

module _ (l : List Record) (v : List ℕ) (long : length v ≡ reader_room) (found : num_at 0 lost_place v ≡ 0) (r : Record) (f : Fitting r)
    (g : Growable l (reader_at v) (scan_at v) (under_at v) r) where
  abbrev all : List Record
  all = l ++ (r ∷ [])

  good : scan_number 1 6 all ≡ 0
  good = readers.good-now l r g

  still-found : {u : List ℕ} → Same lost_place 1 u v → false ≡ (reader_at u).lost
  still-found s = rw (same-num 0 lost_place s (omega arith) (omega arith) ∙ found)

  -- a dot of the map's clock
  clock-is : dots_at v clock_place ≡ clock_in l
  clock-is = g.parts.clock

  clock-grown : r.kind ≡ 1 → Grown all v (dot_put clock_place r v)
  clock-grown k =
      let t = dot-touched clock_place r v f (omega arith) in
      let more = dot-more clock_place r v f (omega arith) (rw clock-is (readers.clock-room l r g k)) in
      let entries = same_entries (below-touched entries_place 1 t (omega arith))
      (above-touched (entry_place 0) (entry_limit * entry_room) t (omega arith)) in
      let waiting = same-waiting (below-touched waits_place 1 t (omega arith))
      (above-touched (removal_place 0) (waiting_limit * removal_room) t (omega arith)) in
      became all (touched-wide lost_place map_room t (omega arith) (omega arith))
      (readers.grown-clock l r g k {clock = dots_at (dot_put clock_place r v) clock_place} refl (more ∙ ap (λ ds. ds ++ (dot_of r ∷ [])) clock-is))
      (still-found (below-touched lost_place 1 t (omega arith))) refl (sym entries) (sym waiting)

  -- a record that does not find what it needs
  module _ (w : List ℕ) (is : w ≡ lose v) where
    lose-put : Touched lost_place 1 v w
    unfolding lose
    lose-put = rw is (touched-put 0 lost_place 1 v (omega arith) (omega arith))

    now-lost : true ≡ (reader_at w).lost
    unfolding lose
    now-lost = rw (is, put-read 0 lost_place 1 v (omega arith) (omega arith))

    lost-grown : MapSoFar all
        (record {
          scan = scan_at v;
          under = under_at v;
          lost = true;
          clock = (reader_at v).clock;
          entries = (reader_at v).entries;
          waiting = (reader_at
              v).waiting;
        })
        → Grown all v w
    lost-grown m =
        let t = lose-put in
        became all (touched-wide lost_place map_room t (omega arith) (omega arith)) m now-lost
        (sym (same-dots (above-touched clock_place clock_room t (omega arith)) clock_place (omega arith) (omega arith)))
        (sym (same_entries (above-touched entries_place 1 t (omega arith))
        (above-touched (entry_place 0) (entry_limit * entry_room) t (omega arith))))
        (sym (same-waiting (above-touched waits_place 1 t (omega arith))
        (above-touched (removal_place 0) (waiting_limit * removal_room) t (omega arith))))

  -- the entries
  module _ (plain : r.kind ≡ 1 → ⊥) (early : r.kind < 5) where
    entries-is : entries_at v ≡ entries_for l
    entries-is = g.parts.entries

    keys-long : length (entry_keys l) ≡ entry_count v
    unfolding entries_at
    keys-long = sym (length-map (entry_keys l) (entry_in l)) ∙ sym (ap length entries-is) ∙ length-of (entry_held_at v) (entry_count v)

    entries-lost : EntriesNow l r true (entries_at v) → Grown all v (lose v)
    entries-lost e = lost-grown (lose v) refl (readers.grown-entries l r g plain early refl e)

    -- the entry of r's key
    module _ (j : ℕ) (h : j < entry_count v) (match : key_at v j ≡ r.key) where
      in-keys : j < length (entry_keys l)
      in-keys = omega (arith, keys-long)

      low : j < entry_limit
      low = omega arith

      entry_read : entry_held_at v j ≡ get_or (entries_for l) j no_entry
      unfolding entries_at
      entry_read = sym (below_at (entry_held_at v) (entry_count v) j no_entry h) ∙ ap (λ es. get_or es j no_entry) entries-is

      key-at : get_or (entry_keys l) j 0 ≡ r.key
      key-at = sym (ap (λ e. e.key) (entry_read ∙ get-map (entry_in l) (entry_keys l) j no_entry in-keys)) ∙ match

      entry-is : entry_held_at v j ≡ entry_in l r.key
      entry-is = entry_read ∙ entry_at l r j in-keys key-at

      own_is : dots_at v (own_place j) ≡ dots_from (under_key 2 r.key) l
      own_is = dots-like _ _ (ap (λ e. e.clock) entry-is)

      values-is : values_at v j ≡ values_under l r.key
      values-is = values-like _ _ (ap (λ e. e.register) entry-is)

      stored : {u : List ℕ} {ds : List Dot} {vs : List Value} → EntryNow j v u ds vs → {cs : List Dot} {xs : List Value} → ds ≡ cs → vs ≡ xs
          → entries_at u ≡ set (entries_for l) j (entry_as r.key cs xs)
      stored e p q = entry-stored j e h ∙ (λ i. set (entries-is i) j (entry_as (match i) (p i) (q i)))

      entry-grown : {u : List ℕ} {ds : List Dot} {vs : List Value} → EntryNow j v u ds vs → EntriesNow l r false (entries_at u) → Grown all v u
      entry-grown e n =
          let t = e.touched in
          became all (touched-wide lost_place map_room t (omega arith) (omega arith)) (readers.grown-entries l r g plain early refl n)
          (still-found (below-touched lost_place 1 t (omega arith)))
          (sym (same-dots (below-touched clock_place clock_room t (omega arith)) clock_place (omega arith) (omega arith)))
          refl
          (sym (same-waiting (below-touched waits_place 1 t (omega arith))
          (above-touched (removal_place 0) (waiting_limit * removal_room) t (omega arith))))

      known-dot : r.kind ≡ 2 → Grown all v (dot_put (own_place j) r v)
      known-dot k =
          let e = own-now j r v f long low (rw own_is (entry-dots-room l r good k)) in
          entry-grown e (steps.dot-now l r j in-keys key-at k (stored e (ap (λ ds. ds ++ (dot_of r ∷ [])) own_is) values-is))

      abbrev count : ℕ
      count = num_at 0 (values_place j) v

      values-long : length (values_under l r.key) ≡ min count value_limit
      unfolding values_at
      values-long = sym (ap length values-is) ∙ length-of (λ i. value_at v (value_place j i)) (min count value_limit)

      known-value : r.kind ≡ 3 → Grown all v (value_put j r v)
      unfolding value_put
      known-value k =
          let room : count < value_limit = omega (arith, values-long, steps.values-few l r good k) in
          decide (eqb count r.index)
          (λ t. let i = eqb-true count r.index t in
          let e = value-now j r v f long low room i in
          entry-grown e
          (steps.value-now l r j in-keys key-at good k (omega (arith, values-long))
          (stored e own_is (ap (λ vs. vs ++ (record { clock = clock_of []; value = content_of r } ∷ [])) values-is))))
          (λ t. let n = eqb-false count r.index t in
          rw t (entries-lost (steps.value-misfit l r j in-keys key-at k (λ e. n (omega (arith, values-long))) (entries_at v))))

      abbrev its : ℕ
      its = value_place j r.index

      value-missed : r.kind ≡ 4 → min count value_limit ≤ r.index → Grown all v (value_dot_put j r v)
      unfolding value_dot_put
      value-missed k b =
          let lost = entries-lost (steps.value-dot-misfit l r j in-keys key-at k (omega (arith, values-long)) (entries_at v)) in
          decide (ltb r.index count) (λ t. rw (t, le-ltb r.index value_limit (omega (arith, ltb-true r.index count t))) lost) (λ t. rw t lost)

      module _ (k : r.kind ≡ 4) (b : r.index < min count value_limit) where
        in-values : r.index < length (values_under l r.key)
        in-values = omega (arith, values-long)

        value-is : value_at v its ≡ get_or (values_under l r.key) r.index no_value
        unfolding values_at
        value-is =
            sym (below_at (λ i. value_at v (value_place j i)) (min count value_limit) r.index no_value b)
            ∙ ap (λ vs. get_or vs r.index no_value) values-is

        value-dots : dots_at v (its + 8) ≡ dots_from (under_both 4 r.key r.index) l
        value-dots = dots-like _ _ (ap (λ x. x.clock) value-is ∙ steps.value-clock l r in-values)

        value-met : Grown all v (value_dot_put j r v)
        value-met =
            let e = value-dot-now j r v f long low b (rw value-dots (value-dots-room l r good k)) in
            entry-grown e
            (steps.value-dot-now l r j in-keys key-at k in-values
            (stored e own_is (λ i. set (values-is i) r.index
            (record { clock = clock_of (value-dots i ++ (dot_of r ∷ [])); value = (value-is i).value }))))

      known-value-dot : r.kind ≡ 4 → Grown all v (value_dot_put j r v)
      known-value-dot k =
          decide (ltb r.index (min count value_limit)) (λ t. value-met k (ltb-true r.index (min count value_limit) t))
          (λ t. value-missed k (ltb-false r.index (min count value_limit) t))

      known_grown : Grown all v (known_put j r v)
      unfolding known_put
      known_grown =
          let one = readers.kind-low l r g in
          decide (eqb r.kind 2) (λ t. rw t (known-dot (eqb-true r.kind 2 t)))
          (λ t. let a = eqb-false r.kind 2 t in
          decide (eqb r.kind 3) (λ u. rw (t, u) (known-value (eqb-true r.kind 3 u)))
          (λ u. let b = eqb-false r.kind 3 u in rw (t, u) (known-value-dot (omega (arith, a, b, plain)))))

    -- an entry that is new
    module _ (new : some (λ x. eqb x r.key) (entry_keys l) ≡ false) where
      begun-grown : r.kind ≡ 2 → entry_count v < entry_limit → Grown all v (entry_begun (entry_count v) r v)
      begun-grown k few =
          let n = entry_count v in
          let t = made-touched r v f long n few in
          let c = begun-touched r v f long n few in
          became all (touched-then (touched-wide lost_place map_room t (omega arith) (omega arith))
          (touched-wide lost_place map_room c (omega arith) (omega arith)))
          (readers.grown-entries l r g plain early refl
          (steps.new-now l r new good k (entry-added r v f long n few refl ∙ ap (λ es. es ++ (entry_as r.key (dot_of r ∷ []) [] ∷ [])) entries-is)))
          (still-found (same_then (below-touched lost_place 1 c (omega arith)) (below-touched lost_place 1 t (omega arith))))
          (sym (same-dots (above-touched clock_place clock_room c (omega arith)) clock_place (omega arith) (omega arith)
          ∙ same-dots (below-touched clock_place clock_room t (omega arith)) clock_place (omega arith) (omega arith)))
          refl
          (sym (same-waiting (above-touched waits_place 1 c (omega arith))
          (above-touched (removal_place 0) (waiting_limit * removal_room) c (omega arith))
          ∙ same-waiting (below-touched waits_place 1 t (omega arith))
          (above-touched (removal_place 0) (waiting_limit * removal_room) t (omega arith))))

    abbrev hit : ℕ → Bool
    hit j = eqb (key_at v j) r.key

    none-hit : ((j : ℕ) → j ∈ numbers_below (entry_count v) → hit j ≡ false) → some (λ x. eqb x r.key) (entry_keys l) ≡ false
    unfolding entries_at
    none-hit h =
        false-some (λ x. eqb x r.key) (entry_keys l)
        (λ x i. let stands : entry_in l x ∈ entries_at v = rw entries-is (Memᴰ.map (entry_in l) i) in
        let m = Memᴰ.of_map (entry_held_at v) (numbers_below (entry_count v)) stands in
        ap (λ e. eqb e.key r.key) (sym m.2) ∙ h m.0 m.1)

    entries-grown : Grown all v (entry_put r v)
    unfolding entry_put entry_place_of
    entries-grown =
        let n = entry_count v in
        ⊎_elim
        (λ (x : Hit hit (λ j. j) n (numbers_below n)). let h = waits.members-below n x.found x.stands in
        rw (x.given, lt-ltb x.found n h) (known_grown x.found h (eqb-true (key_at v x.found) r.key x.passes)))
        (λ none. let new = none-hit none in
        rw (first-none hit (λ j. j) n (numbers_below n) none, le-ltb n n (omega arith))
        (decide (eqb r.kind 2)
        (λ t. let k = eqb-true r.kind 2 t in
        let few : n < entry_limit = omega (arith, entries-room l r good k new, keys-long) in
        rw (t, lt-ltb n entry_limit few) (begun-grown new k few))
        (λ t. rw t (entries-lost (steps.entry-lost l r new (readers.kind-low l r g) plain early (eqb-false r.kind 2 t) (entries_at v))))))
        (first-cases hit (λ j. j) n (numbers_below n))

  -- the waiting removals
  module _ (late : 5 ≤ r.kind) where
    waiting-is : waiting_at v ≡ waiting_for l
    waiting-is = g.parts.waiting

    waiting-long : waiting_count_at v ≡ waiting_count l
    unfolding waiting_at
    waiting-long = sym (length-of (removal_at v) (waiting_count_at v)) ∙ ap length waiting-is ∙ waits.how-many l r

    abbrev k : ℕ
    k = r.index

    waiting-lost : WaitingNow l r true (waiting_at v) → Grown all v (lose v)
    waiting-lost e = lost-grown (lose v) refl (readers.grown-waiting l r g late refl e)

    -- the removal of r's index
    module _ (h : k < waiting_count_at v) where
      known : k < waiting_count l
      known = omega (arith, waiting-long)

      removal-is : removal_at v k ≡ waiting_removal_in l k
      unfolding waiting_at
      removal-is =
          sym (below_at (removal_at v) (waiting_count_at v) k no_removal h) ∙ ap (λ ws. get_or ws k no_removal) waiting-is
          ∙ waits.removal-at l r known

      removal-dots : dots_at v (removal_place k) ≡ dots_from (under_index 5 k) l
      removal-dots = dots-like _ _ (ap (λ x. x.clock) removal-is)

      removal-keys : listed_at v k ≡ map (λ x. x.key) (those (under_index 6 k) l)
      removal-keys = keys-like _ _ (ap (λ x. x.keys) removal-is)

      low-index : k < waiting_limit
      low-index = omega arith

      removal-grown : {u : List ℕ} {ds : List Dot} {ks : List ℕ} → RemovalNow k v u ds ks → WaitingNow l r false (waiting_at u) → Grown all v u
      removal-grown e n =
          let t = e.touched in
          became all (touched-wide lost_place map_room t (omega arith) (omega arith)) (readers.grown-waiting l r g late refl n)
          (still-found (below-touched lost_place 1 t (omega arith)))
          (sym (same-dots (below-touched clock_place clock_room t (omega arith)) clock_place (omega arith) (omega arith)))
          (sym (same_entries (below-touched entries_place 1 t (omega arith))
          (below-touched (entry_place 0) (entry_limit * entry_room) t (omega arith))))
          refl

      removal-dot : r.kind ≡ 5 → Grown all v (dot_put (removal_place k) r v)
      removal-dot five =
          let e = waiting-dot-now k r v f long low-index (rw removal-dots (waiting-dots-room l r good five)) in
          removal-grown e
          (waits.dot-now l r known five
          (removal-stored k e h ∙ ap₂ (λ ws x. set ws k x) waiting-is
          (ap₂ (λ ds ks. removal_as (ds ++ (dot_of r ∷ [])) ks) removal-dots removal-keys)))

      removal-key : r.kind ≡ 6 → Grown all v (key_put k r v)
      unfolding listed_at
      removal-key six =
          let few = waits.removal-keys-few l r good six in
          let listed = length-of (λ i. num_at 2 (key_place k i) v) (min (num_at 0 (keys_place k) v) key_limit) in
          let e = waiting-key-now k r v f long low-index (omega (arith, few, ap length removal-keys, listed)) in
          removal-grown e
          (waits.key-now l r known six
          (removal-stored k e h ∙ ap₂ (λ ws x. set ws k x) waiting-is (ap₂ (λ ds ks. removal_as ds (ks ++ (r.key ∷ []))) removal-dots removal-keys)))

    removal-new : r.kind ≡ 5 → k ≡ waiting_count_at v → k < waiting_limit → Grown all v (removal_begun k r v)
    removal-new five e few =
        let t = laid-touched r v f long k few in
        let c = removal-touched r v f long k few in
        let both = same_then (below-touched 0 waits_place c (omega arith)) (below-touched 0 waits_place t (omega arith)) in
        let map-part = same_then (above-touched clock_place (clock_room + entry_limit * entry_room) c (omega arith))
        (below-touched clock_place (clock_room + entry_limit * entry_room) t (omega arith)) in
        let entries-part = same-part (entry_place 0) (entry_limit * entry_room) map-part (omega arith) (omega arith) in
        let count-part = same-part entries_place 1 both (omega arith) (omega arith) in
        became all (touched-then (touched-wide lost_place map_room t (omega arith) (omega arith))
        (touched-wide lost_place map_room c (omega arith) (omega arith)))
        (readers.grown-waiting l r g late refl
        (waits.new-now l r good five (e ∙ waiting-long) (removal-added r v f long k few (sym e)
        ∙ ap (λ ws. ws ++ (removal_as (dot_of r ∷ []) [] ∷ [])) waiting-is)))
        (still-found (same-part lost_place 1 both (omega arith) (omega arith)))
        (sym (same-dots map-part clock_place (omega arith) (omega arith)))
        (sym (same_entries count-part entries-part))
        refl

    waiting-grown : Grown all v (waiting_put k r v)
    unfolding waiting_put
    waiting-grown =
        let n = waiting_count_at v in
        let high = readers.kind-high l r g in
        decide (ltb k n)
        (λ t. let h = ltb-true k n t in
        decide (eqb r.kind 5) (λ u. rw (t, u) (removal-dot h (eqb-true r.kind 5 u)))
        (λ u. rw (t, u) (removal-key h (omega (arith, eqb-false r.kind 5 u)))))
        (λ t. let h = ltb-false k n t in
        let miss = waits.removal-lost l r late high (omega (arith, waiting-long)) in
        decide (eqb r.kind 5)
        (λ u. decide (eqb k n)
        (λ e. let five = eqb-true r.kind 5 u in
        let i = eqb-true k n e in
        let room : k < waiting_limit = omega (arith, waits.waits-room l r g.placed good five (i ∙ waiting-long), i ∙ waiting-long) in
        rw (t, u, e, lt-ltb k waiting_limit room) (removal-new five i room))
        (λ e. rw (t, u, e) (waiting-lost (miss (rw (u, ← waiting-long) e) (waiting_at v)))))
        (λ u. rw (t, u) (waiting-lost (miss (rw u) (waiting_at v)))))

  -- a record where it belongs
  pub record-grown : Grown all v (record_put r v)
  unfolding record_put
  record-grown =
      decide (eqb r.kind 1) (λ t. rw t (clock-grown (eqb-true r.kind 1 t)))
      (λ t. let plain = eqb-false r.kind 1 t in
      decide (ltb r.kind 5) (λ u. rw (t, u) (entries-grown plain (ltb-true r.kind 5 u)))
      (λ u. rw (t, u) (waiting-grown (ltb-false r.kind 5 u))))
