-- Records of which every sentence of 01 holds are related.
use mathlib.Core.Path.{◌≡◌, refl, ap, ap₂, sym, ◌∙◌}
use mathlib.Core.Bool.{Bool, true, false, not}
use mathlib.Core.List.Memᴰ
use mathlib.Core.List.{List, [], ◌∷◌, map}
use Prim.Native.Nat.{ℕ, zero, suc, ◌+◌, ◌≤◌, ◌<◌}
use native.Mathlib.Omega.{arith}
use lib.Dec.{eqb, ltb}
use lib.ListN.{length, length-map}
use borrow.Author.Tests.{eq-eqb, ne_eqb, eqb-true, eqb-false, lt-ltb, le-ltb, le-leb, ltb-true, ltb-false}
use Rattle.listlaws.specs.Order.{◌∈◌, Ascending, nil, by}
use Rattle.listlaws.specs.First.{some}
use Rattle.listlaws.specs.Sift.{those}
use Rattle.listlaws.proofs.Firsts.{none-holds}
use Rattle.listlaws.proofs.Orders.{apart, by-strict, same-members}
use Rattle.listlaws.proofs.Sides.{one-ascends, append-ascends}
use Rattle.listlaws.proofs.Sifts.{length-sift}
use Rattle.listlaws.proofs.Somes.{some-means, some-false, some_holds}
use Rattle.listlaws.proofs.Those.{those-means, those-holds, those-ascends}
use Rattle.clock.specs.Dots.{dots_of, counter_in, beyond, is_empty, covers}
use Rattle.clock.proofs.Packs.{dots-of}
use Rattle.register.specs.declared.Value.{Value}
use Rattle.entries.specs.declared.Entry.{Entry}
use Rattle.entries.specs.Model.{dots_in, values_in}
use Rattle.removals.specs.Waits.{clock_before, removal_before}
use Rattle.entries.proofs.Packs.{dots-in, values-in}
use Rattle.records.specs.declared.Record.{Record}
use Rattle.records.specs.Kinds.{actor_of, before, record_ok}
use Rattle.scan.specs.Each.{every, each}
use Rattle.scan.specs.Numbers.{scan_number}
use Rattle.scan.proofs.Befores.{before-fields}
use Rattle.scan.proofs.Eachs.{decide, both, both_left, both_right, every_of}
use Rattle.scan.proofs.Rooms.{unordered, no_key}
use Rattle.clockimage.specs.Image.{is_kind, dot_of, dots_from}
use Rattle.clockimage.proofs.Dots.{map_snoc}
use Rattle.opimage.specs.OpImage.{no_record}
use Rattle.maprecords.specs.Reading.{under_key, under_index, under_both, value_in, values_under, entry_in, entry_keys, entries_for, waiting_count}
use Rattle.maprecords.specs.Reading.{waiting_removal_in, numbers_below, waiting_for}
use Rattle.clockimage.specs.ClockImage.{clock_in}
use Rattle.maprecords.specs.Related.{value_fits, value_dot_fits, finds_place, dotted, entry_whole, ascend, related}
use Rattle.maprecords.proofs.Keys.{length-places, length-below}
use Rattle.maprecords.proofs.Waits.{members-below as below-means}
use Rattle.maprecords.proofs.Counts.{indexes-below}
use Rattle.acceptancelaws.proofs.Grouped.{ranks-rise, fine, rises}
use Rattle.acceptancelaws.proofs.Limited.{at_key}
use Rattle.acceptancelaws.proofs.Entered.{not-empty}
use Rattle.acceptancelaws.proofs.Waited.{under-as}
use Rattle.oneimagelaws.proofs.Stands.{in_place, place_in}
use Rattle.oneimagelaws.proofs.Made.{of-place}
use Rattle.oneimagelaws.proofs.Keyed.{keys-has, count_most}
use Rattle.oneimagelaws.proofs.Placing.{place-index}
use Rattle.oneimagelaws.proofs.Relates.{ahead, each_of, neighbours-ascend}
use Rattle.oneimagelaws.proofs.Rising.{by_kind, by_index}
use Rattle.oneimagelaws.proofs.Scans.{below-has}
use Rattle.sentencelaws.specs.Sentences.{MapSentences}

-- what f makes of 0, 1, .. n - 1 ascends
below-ascends : {A : Type 0} (before : A → A → Bool) (f : ℕ → A) (n : ℕ) → ((i j : ℕ) → i < j → j < n → before (f i) (f j) ≡ true)
    → Ascending before (map f (numbers_below n))
unfolding numbers_below
below-ascends before f zero g = nil
below-ascends before f (suc n) g =
    rw (map_snoc f (numbers_below n) n)
    (append-ascends (below-ascends before f n (λ i j a b. g i j a (omega arith))) (one-ascends (f n))
    (λ x y i j. let k = Memᴰ.of_map f (numbers_below n) i in
    let same : y ≡ f n = Memᴰ.eq_of_singleton j in
    rw (same, ← k.2) (g k.0 n (below-means n k.0 k.1) (omega arith))))

map-itself : (l : List ℕ) → map (λ x. x) l ≡ l
map-itself [] = refl
map-itself (x ∷ l) = ap (λ m. x ∷ m) (map-itself l)

numbers-ascend : (n : ℕ) → Ascending (by (λ x. x)) (numbers_below n)
numbers-ascend n = rw (map-itself (numbers_below n)) at (below-ascends (by (λ x. x)) (λ x. x) n (λ i j a b. lt-ltb i j a))

-- an ascending list with every number below n has n of them, or more; and just n where it has no others
module _ {l : List ℕ} (a : Ascending (by (λ x. x)) l) (n : ℕ) (f : (j : ℕ) → j < n → j ∈ l) where
  low : those (λ x. ltb x n) l ≡ numbers_below n
  low =
      same-members (by-strict (λ x. x)) (those (λ x. ltb x n) l) (numbers_below n) (those-ascends (λ x. ltb x n) a) (numbers-ascend n)
      (λ x i. below-has n x (ltb-true x n (those-means (λ x. ltb x n) l i).1))
      (λ x i. let b = below-means n x i in those-holds (λ x. ltb x n) (f x b) (lt-ltb x n b))

  at_least : n ≤ length l
  at_least = omega (arith, ap length low ∙ length-below n, length-sift (λ x. ltb x n) (λ x. x) l)

  exactly : ((x : ℕ) → x ∈ l → x < n) → length l ≡ n
  exactly g =
      ap length (same-members (by-strict (λ x. x)) l (numbers_below n) a (numbers-ascend n) (λ x i. below-has n x (g x i))
      (λ x i. f x (below-means n x i))) ∙ length-below n

module _ (l : List Record) (z : scan_number 1 6 l ≡ 0) (h : MapSentences l) where
  good : (r : Record) → r ∈ l → record_ok 1 6 r ≡ true
  good r i = fine 1 6 l z r i

  ahead-has : (r : Record) {s : Record} → s ∈ l → before s r ≡ true → s ∈ ahead r l
  ahead-has r i t = those-holds (λ s. before s r) i t

  -- the values of a key that stand before a record
  module _ (r : Record) (key : ℕ) where
    abbrev values : List Record
    values = those (under_key 3 key) (ahead r l)

    record Value3 (x : Record) : Type 0 where
      kind-is : x.kind ≡ 3
      key-is : x.key ≡ key
      no-actor-is : actor_of x ≡ 0

    value_of : (x : Record) → x ∈ l → x.kind ≡ 3 → x.key ≡ key → Value3 x
    value_of x i k y = record { kind-is = k; key-is = y; no-actor-is = unordered 1 6 x (good x i) k refl }

    further : (x y : Record) → Value3 x → Value3 y → before x y ≡ true → x.index < y.index
    further x y p q b =
        let f = before-fields b in
        let k = p.kind-is ∙ sym q.kind-is in
        let e = p.key-is ∙ sym q.key-is in
        let most = f.index k e in
        let a = p.no-actor-is in
        let c = q.no-actor-is in
        decide (eqb x.index y.index) (λ t. absurd (omega (arith, f.actor k e (eqb-true x.index y.index t))))
        (λ n. let other = eqb-false x.index y.index n in omega arith)

    of_values : (x : Record) → x ∈ values → (x ∈ l) × (before x r ≡ true) × Value3 x
    of_values x i =
        let m = those-means (under_key 3 key) (ahead r l) i in
        let n = those-means (λ s. before s r) l m.0 in
        let k = at_key key 3 x m.1 in
        (n.0, n.1, value_of x n.0 k.0 k.1)

    indexes : List ℕ
    indexes = map (λ x. x.index) values

    indexes-ascend : Ascending (by (λ x. x)) indexes
    unfolding indexes
    indexes-ascend = ranks-rise (λ x. x.index) (λ n. n) Value3 further values (λ x i. (of_values x i).2)
        (those-ascends (under_key 3 key) (those-ascends (λ s. before s r) (rises 1 6 l z)))

    index_in : {s : Record} → s ∈ l → before s r ≡ true → s.kind ≡ 3 → s.key ≡ key → s.index ∈ indexes
    unfolding indexes
    index_in {s} i b k y =
        Memᴰ.map (λ (x : Record). x.index) (those-holds (under_key 3 key) (ahead-has r i b)
        (both (is_kind 3 s) (eqb s.key key) (eq-eqb s.kind 3 k) (eq-eqb s.key key y)))

    indexes-length : length (values_in (entry_in (ahead r l) key)) ≡ length indexes
    unfolding indexes
    indexes-length =
        ap length (values-in key (dots_from (under_key 2 key) (ahead r l)) (values_under (ahead r l) key))
        ∙ length-places (value_in (ahead r l) key) 0 values ∙ sym (length-map values (λ x. x.index))

  -- so many values stand before a value as its index says
  module _ (r : Record) (i : r ∈ l) where
    lower : r.kind ≡ 3 → (j : ℕ) → j < r.index → j ∈ indexes r r.key
    lower k j b =
        let (s, a, c) = h.values-no-gap r i k j b in
        Memᴰ.cast (sym c.1.1) (index_in r r.key a (by_index s r (c.0 ∙ sym k) c.1.0 (omega (arith, c.1.1))) c.0 c.1.0)

    values-before : r.kind ≡ 3 → length (indexes r r.key) ≡ r.index
    unfolding indexes
    values-before k =
        exactly (indexes-ascend r r.key) r.index (lower k)
        (λ x m. let y = Memᴰ.of_map (λ (q : Record). q.index) (values r r.key) m in
        let o = of_values r r.key y.0 y.1 in
        rw (← y.2) (further r r.key y.0 r o.2 (value_of r r.key r i k refl) o.1))

    -- and more than the index of a value dot stand before it
    values-more : r.kind ≡ 4 → r.index < length (indexes r r.key)
    values-more k = omega (arith, at_least (indexes-ascend r r.key) (r.index + 1) upto)
      where
        upto : (j : ℕ) → j < r.index + 1 → j ∈ indexes r r.key
        upto j b =
            let (v, a, c) = h.dot-needs-value r i k in
            decide (eqb j r.index)
            (λ t. Memᴰ.cast (eqb-true j r.index t ∙ sym c.1.1) (index_in r r.key a (by_kind v r (omega (arith, c.0))) c.0 c.1.0))
            (λ n. let (s, m, q) = h.values-no-gap v a c.0 j (omega (arith, eqb-false j r.index n, c.1.1)) in
            Memᴰ.cast (sym q.1.1) (index_in r r.key m (by_kind s r (omega (arith, q.0))) q.0 (q.1.0 ∙ c.1.0)))

    -- the entry of the record's key stands before it
    entry-ahead : {s : Record} → s ∈ l → s.kind ≡ 2 → s.key ≡ r.key → 2 < r.kind → (test : Entry → Bool)
        → test (entry_in (ahead r l) r.key) ≡ true → some test (entries_for (ahead r l)) ≡ true
    entry-ahead {s} a k e b test t =
        some_holds test {l = entries_for (ahead r l)} {x = entry_in (ahead r l) r.key}
        (Memᴰ.map (entry_in (ahead r l)) (Memᴰ.cast (sym e) (keys-has (ahead r l) s (ahead-has r a (by_kind s r (omega arith))) k))) t

    value-placed : r.kind ≡ 3 → some (value_fits r) (entries_for (ahead r l)) ≡ true
    value-placed k =
        let (s, a, c) = h.value-needs-entry r i k in
        entry-ahead a c.0 c.1 (omega arith) (value_fits r)
        (both (eqb r.key r.key) (eqb (length (values_in (entry_in (ahead r l) r.key))) r.index) (eq-eqb r.key r.key refl)
        (eq-eqb _ r.index (indexes-length r r.key ∙ values-before k)))

    value-dot-placed : r.kind ≡ 4 → some (value_dot_fits r) (entries_for (ahead r l)) ≡ true
    value-dot-placed k =
        let (s, a, c) = h.dot-needs-entry r i k in
        entry-ahead a c.0 c.1 (omega arith) (value_dot_fits r)
        (both (eqb r.key r.key) (ltb r.index (length (values_in (entry_in (ahead r l) r.key)))) (eq-eqb r.key r.key refl)
        (lt-ltb r.index _ (omega (arith, indexes-length r r.key, values-more k))))

    no-key-is : {s : Record} → s ∈ l → s.kind ≡ 5 → s.key ≡ 0
    no-key-is {s} a k = no_key 1 6 s (good s a) k refl

    waiting-dot-placed : r.kind ≡ 5 → r.index ≤ waiting_count (ahead r l)
    waiting-dot-placed k = go r.index refl
      where
        go : (n : ℕ) → r.index ≡ n → r.index ≤ waiting_count (ahead r l)
        go zero e = omega arith
        go (suc n) e =
            let (s, a, c) = h.waiting-no-gap r i k n (omega arith) in
            let b = by_index s r (c.0 ∙ sym k) (no-key-is a c.0 ∙ sym (no-key-is i k)) (omega (arith, c.1)) in
            omega (arith, indexes-below (ahead r l) s (ahead-has r a b) c.0, c.1)

    waiting-key-placed : r.kind ≡ 6 → r.index < waiting_count (ahead r l)
    waiting-key-placed k =
        let (s, a, c) = h.key-needs-clock r i k in
        omega (arith, indexes-below (ahead r l) s (ahead-has r a (by_kind s r (omega (arith, c.0)))) c.0, c.1)

    record-placed : finds_place (ahead r l) r ≡ true
    record-placed =
        let not_at : (n : ℕ) → (r.kind ≡ n → ⊥) → eqb r.kind n ≡ false = λ n g. ne_eqb r.kind n g in
        decide (eqb r.kind 3)
        (λ t. let k = eqb-true r.kind 3 t in
        rw (t, not_at 5 (λ e. omega arith), not_at 6 (λ e. omega arith))
        (both (some (value_fits r) (entries_for (ahead r l))) true (value-placed k) refl))
        (λ three. decide (eqb r.kind 4)
        (λ t. let k = eqb-true r.kind 4 t in
        rw (three, t, not_at 5 (λ e. omega arith), not_at 6 (λ e. omega arith))
        (both (some (value_dot_fits r) (entries_for (ahead r l))) true (value-dot-placed k) refl))
        (λ four. decide (eqb r.kind 5)
        (λ t. rw (three, four, t) (le-leb r.index (waiting_count (ahead r l)) (waiting-dot-placed (eqb-true r.kind 5 t))))
        (λ five. decide (eqb r.kind 6) (λ t. rw (three, four, five, t)
        (lt-ltb r.index (waiting_count (ahead r l)) (waiting-key-placed (eqb-true r.kind 6 t))))
        (λ six. rw (three, four, five, six) refl))))

  each_placed : each finds_place l ≡ true
  each_placed = each_of finds_place l (rises 1 6 l z) record-placed

  -- the entries
  entry-covered : (key : ℕ) → covers (clock_in l) (dots_from (under_key 2 key) l) ≡ true
  unfolding covers
  entry-covered key =
      none-holds (beyond (clock_in l)) (dots_from (under_key 2 key) l)
      (λ d i. let y = Memᴰ.of_map dot_of (those (under_key 2 key) l) i in
      let m = those-means (under_key 2 key) l y.1 in
      rw (← y.2) (le-ltb (counter_in (clock_in l) y.0.actor) y.0.number (h.dots-within y.0 m.0 (at_key key 2 y.0 m.1).0)))

  value-dotted : (key : ℕ) (v : Value) → v ∈ values_under l key → dotted v ≡ true
  value-dotted key v i =
      let (j, p) = in_place i in
      let (x, q, e) = of-place (value_in l key) no_record p in
      let m = those-means (under_key 3 key) l (place_in q) in
      let k = at_key key 3 x m.1 in
      let (s, a, c) = h.value-needs-dot x m.0 k.0 in
      let same : x.index ≡ j = place-index key l each_placed q in
      let t = both (under_key 4 key s) (eqb s.index j) (both (is_kind 4 s) (eqb s.key key) (eq-eqb s.kind 4 c.0)
      (eq-eqb s.key key (c.1.0 ∙ k.1))) (eq-eqb s.index j (c.1.1 ∙ same)) in
      ap (λ (w : Value). not (is_empty (dots_of w.clock))) e
      ∙ ap (λ d. not (is_empty d)) (dots-of (dots_from (under_both 4 key j) l) refl)
      ∙ ap not (not-empty dot_of (those (under_both 4 key j) l) s (those-holds (under_both 4 key j) a t))

  entries-whole : every (entry_whole (clock_in l)) (entries_for l) ≡ true
  entries-whole =
      every_of (entry_whole (clock_in l)) (entries_for l)
      (λ e i. let y = Memᴰ.of_map (entry_in l) (entry_keys l) i in
      let key = y.0 in
      let dots = dots_from (under_key 2 key) l in
      rw (← y.2)
      (both (covers (clock_in l) (dots_in (entry_in l key))) (every dotted (values_in (entry_in l key)))
      (rw (dots-in key dots (values_under l key)) (entry-covered key))
      (rw (values-in key dots (values_under l key)) (every_of dotted (values_under l key) (value-dotted key)))))

  -- the waiting removals
  waiting-has : (i : ℕ) → i < waiting_count l → (s : Record) × (s ∈ l) × ((s.kind ≡ 5) × (s.index ≡ i))
  waiting-has i b =
      decide (some (under_index 5 i) l)
      (λ t. let (s, a, p) = some-means (under_index 5 i) l t in (
        s,
        a,
        (
          eqb-true s.kind 5 (both_left (is_kind 5 s) (eqb s.index i) p),
          eqb-true s.index i (both_right (is_kind 5 s) (eqb s.index i) p),
        ),
      ))
      (λ f. absurd (omega (arith, count_most l i (λ s a k. below-it f s a k (ltb s.index i) refl))))
    where
      none-at : some (under_index 5 i) l ≡ false → (s : Record) → s ∈ l → s.kind ≡ 5 → s.index ≡ i → ⊥
      none-at f s a k e = apart (sym (both (is_kind 5 s) (eqb s.index i) (eq-eqb s.kind 5 k) (eq-eqb s.index i e))
          ∙ some-false (under_index 5 i) f s a)

      below-it : some (under_index 5 i) l ≡ false → (s : Record) → s ∈ l → s.kind ≡ 5 → (t : Bool) → ltb s.index i ≡ t → s.index < i
      below-it f s a k true t = ltb-true s.index i t
      below-it f s a k false t =
          decide (eqb s.index i) (λ e. absurd (none-at f s a k (eqb-true s.index i e)))
          (λ n. let (q, m, c) = h.waiting-no-gap s a k i (omega (arith, ltb-false s.index i t, eqb-false s.index i n)) in
          absurd (none-at f q m c.0 c.1))

  waiting-ascends : ascend (waiting_for l) ≡ true
  waiting-ascends =
      neighbours-ascend (waiting_for l)
      (below-ascends removal_before (waiting_removal_in l) (waiting_count l)
      (λ i j a b. let (r, m, p) = waiting-has i (omega arith) in
      let (s, n, q) = waiting-has j b in
      ap₂ clock_before (under-as (dots_from (under_index 5 i) l) (map (λ x. x.key) (those (under_index 6 i) l)))
      (under-as (dots_from (under_index 5 j) l) (map (λ x. x.key) (those (under_index 6 j) l)))
      ∙ ap₂ (λ x y. clock_before (dots_from (under_index 5 x) l) (dots_from (under_index 5 y) l)) (sym p.1) (sym q.1)
      ∙ h.clocks-ascend r s m n p.0 q.0 (omega (arith, p.1, q.1))))

  pub needing : related l ≡ true
  unfolding related
  needing = both (each finds_place l) _ each_placed (both (every (entry_whole (clock_in l)) (entries_for l))
      (ascend (waiting_for l)) entries-whole waiting-ascends)
