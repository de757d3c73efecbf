-- The records of a map's image are related: each finds what it needs among those before it.
use mathlib.Core.Path.{◌≡◌, refl, ap, sym, ◌∙◌, subst}
use mathlib.Core.Bool.{Bool, true, false, not}
use mathlib.Core.Logic.{⊎_elim}
use mathlib.Core.List.Memᴰ
use mathlib.Core.List.{List, [], ◌∷◌, ◌++◌, append_assoc}
use Prim.Native.Nat.{ℕ, zero, suc, ◌+◌, ◌≤◌, ◌<◌}
use native.Mathlib.Omega.{arith}
use lib.Dec.{eqb, ltb}
use lib.ListN.{length}
use borrow.Author.Tests.{eq-eqb, lt-ltb, le-leb}
use Rattle.listlaws.specs.Order.{◌∈◌, Ascending}
use Rattle.listlaws.specs.Sift.{sift, those}
use Rattle.listlaws.specs.First.{some}
use Rattle.listlaws.proofs.Orders.{head-before, tail-ascends, never-itself}
use Rattle.listlaws.proofs.Those.{those-holds, those-all, those-none, those-trade}
use Rattle.listlaws.proofs.Somes.{some_holds}
use Rattle.clock.specs.declared.Dot.{Dot}
use Rattle.clock.specs.Dots.{covers}
use Rattle.register.specs.declared.Value.{Value}
use Rattle.entries.specs.declared.Entry.{Entry}
use Rattle.removals.specs.declared.Removal.{Removal}
use Rattle.entries.specs.Model.{dots_in, values_in}
use Rattle.removals.specs.Model.{no_removal}
use Rattle.removals.specs.Waits.{removal_before}
use Rattle.entries.proofs.Packs.{values-in}
use Rattle.map.specs.declared.Map.{Map}
use Rattle.map.specs.Model.{seen_by, entries_in, waiting_in}
use Rattle.map.specs.Valid.{Within}
use Rattle.records.specs.declared.Record.{Record}
use Rattle.records.specs.Kinds.{before}
use Rattle.scan.specs.Each.{every, each_after, each}
use Rattle.scan.proofs.Eachs.{decide, both, every_of}
use Rattle.scan.proofs.Befores.{before-fields}
use Rattle.clockimage.specs.Image.{dot_record, dots_from}
use Rattle.opimage.specs.OpImage.{key_record}
use Rattle.mapimage.specs.MapImage.{value_record, map_records}
use Rattle.maprecords.specs.Reading.{under_key, places_from, value_in, values_under, entry_in, entries_for, waiting_count, waiting_for}
use Rattle.clockimage.specs.ClockImage.{clock_in}
use Rattle.maprecords.specs.Related.{value_fits, value_dot_fits, finds_place, dotted, entry_whole, ascend, related}
use Rattle.maprecords.proofs.Keys.{length-places}
use Rattle.maprecords.proofs.Counts.{indexes-below}
use Rattle.oneimagelaws.proofs.Rising.{by_kind, by_index, records-ascend}
use Rattle.oneimagelaws.proofs.Stands.{Place, first, later, place-below, place-get, Part, clock-dot, entry-dot, value, value-dot, waiting-dot}
use Rattle.oneimagelaws.proofs.Stands.{waiting-key, stands-part}
use Rattle.oneimagelaws.proofs.Selected.{before-strict}
use Rattle.oneimagelaws.proofs.Places.{places-means}
use Rattle.oneimagelaws.proofs.Keyed.{keys-has}
use Rattle.oneimagelaws.proofs.Reread.{key-record, index-low, values-stand, entry-stands, waiting-stands, clock-again, entries-again}
use Rattle.oneimagelaws.proofs.Reread.{waiting-again}

-- those before r, among ascending records
abbrev pub ahead : Record → List Record → List Record
ahead r l = those (λ s. before s r) l

ahead_of : (seen : List Record) (x : Record) (l : List Record) → Ascending before (seen ++ (x ∷ l)) → ahead x (seen ++ (x ∷ l)) ≡ seen
unfolding sift
ahead_of [] x l a =
    those-none (λ s. before s x) (x ∷ l)
    (λ z i. ⊎_elim (λ (e : z ≡ x). rw e (decide (before x x) (λ t. never-itself before-strict x t) (λ f. f)))
    (λ j. before-strict x z (head-before a z j)) (Memᴰ.cases_cons i))
ahead_of (y ∷ seen) x l a =
    rw (head-before a x (Memᴰ.append_right seen (Memᴰ.head refl))) (ap (λ m. y ∷ m) (ahead_of seen x l (tail-ascends a)))

-- each passes, given those before it, where it passes given those that are before it
module _ (test : List Record → Record → Bool) where
  each_after_lem : (seen l : List Record) → Ascending before (seen ++ l) → ((r : Record) → r ∈ l → test (ahead r (seen ++ l)) r ≡ true)
      → each_after test seen l ≡ true
  unfolding each_after
  each_after_lem seen [] a f = refl
  each_after_lem seen (x ∷ l) a f =
      both (test seen x) _ (ap (λ m. test m x) (sym (ahead_of seen x l a)) ∙ f x (Memᴰ.head refl))
      (each_after_lem (seen ++ (x ∷ [])) l (rw (append_assoc seen (x ∷ []) l) a) (rw (append_assoc seen (x ∷ []) l) (λ r i. f r (Memᴰ.tail i))))

  pub each_of : (l : List Record) → Ascending before l → ((r : Record) → r ∈ l → test (ahead r l) r ≡ true) → each test l ≡ true
  each_of l a f = each_after_lem [] l a f

-- so many values stand before a value as its place says
module _ (key : ℕ) where
  not-before : (a b : ℕ) (x y : Value) → b ≤ a → before (value_record key a x) (value_record key b y) ≡ false
  not-before a b x y h =
      decide (before (value_record key a x) (value_record key b y))
      (λ t. let f = before-fields t in
      let most = f.index refl refl in
      let same : a ≡ b = omega arith in
      absurd (omega (arith, f.actor refl refl same))) (λ f. f)

  values-ahead : {v : Value} (i : ℕ) {j : ℕ} {l : List Value} → Place v j l
      → length (ahead (value_record key (i + j) v) (places_from (value_record key) i l)) ≡ j
  unfolding places_from sift
  values-ahead {v} i (first {y = y} {l = l} e) =
      ap length
      (those-none (λ s. before s (value_record key (i + 0) v)) (places_from (value_record key) i (y ∷ l))
      (λ z m. let r = places-means (value_record key) i (y ∷ l) z m in rw r.given (not-before (i + r.place) (i + 0) r.source v (omega arith))))
  values-ahead {v} i (later {y = y} {l = l} {j = j} p) =
      let same : i + suc j ≡ i + 1 + j = omega arith in
      rw (by_index (value_record key i y) (value_record key (i + suc j) v) refl refl (omega arith)) (ap suc
      (subst (λ k. length (ahead (value_record key k v) (places_from (value_record key) (i + 1) l)) ≡ j) (sym same) (values-ahead (i + 1) p)))

pub neighbours-ascend : (l : List Removal) → Ascending removal_before l → ascend l ≡ true
unfolding ascend
neighbours-ascend [] a = refl
neighbours-ascend (v ∷ []) a = refl
neighbours-ascend (v ∷ (w ∷ l)) a = both (removal_before v w) (ascend (w ∷ l)) (head-before a w (Memᴰ.head refl))
    (neighbours-ascend (w ∷ l) (tail-ascends a))

module _ {m : Map} (h : Within m) where
  abbrev seen : Record → List Record
  seen r = ahead r (map_records m)

  seen-has : (r : Record) {s : Record} → s ∈ map_records m → before s r ≡ true → s ∈ seen r
  seen-has r i t = those-holds (λ s. before s r) i t

  -- an entry stands before its values and their dots
  module _ {e : Entry} (i : e ∈ entries_in m) (r : Record) where
    entry_seen : 2 < r.kind → (test : Entry → Bool) → test (entry_in (seen r) e.key) ≡ true → some test (entries_for (seen r)) ≡ true
    entry_seen b test t =
        let y = entry-stands h i in
        let s = dot_record 2 0 e.key y.0 in
        some_holds test {l = entries_for (seen r)} {x = entry_in (seen r) e.key}
        (Memᴰ.map (entry_in (seen r)) (keys-has (seen r) s (seen-has r y.1 (by_kind s r b)) refl)) t

    values_seen : length (values_in (entry_in (seen r) e.key)) ≡ length (ahead r (places_from (value_record e.key) 0 (values_in e)))
    values_seen =
        ap length (values-in e.key (dots_from (under_key 2 e.key) (seen r)) (values_under (seen r) e.key))
        ∙ length-places (value_in (seen r) e.key) 0 (those (under_key 3 e.key) (seen r))
        ∙ ap length (those-trade (under_key 3 e.key) (λ s. before s r) (map_records m) ∙ ap (ahead r) (values-stand h i))

  value-placed : {e : Entry} → e ∈ entries_in m → (j : ℕ) (v : Value) → Place v j (values_in e)
      → finds_place (seen (value_record e.key j v)) (value_record e.key j v) ≡ true
  value-placed {e} i j v p =
      let r = value_record e.key j v in
      let same : 0 + j ≡ j = omega arith in
      both (some (value_fits r) (entries_for (seen r))) true
      (entry_seen i r (omega arith) (value_fits r)
      (both (eqb e.key e.key) (eqb (length (values_in (entry_in (seen r) e.key))) j) (eq-eqb e.key e.key refl)
      (eq-eqb _ j (values_seen i r ∙ rw same at (values-ahead e.key 0 p))))) refl

  value-dot-placed : {e : Entry} → e ∈ entries_in m → (j : ℕ) (v : Value) → Place v j (values_in e) → (d : Dot)
      → finds_place (seen (dot_record 4 j e.key d)) (dot_record 4 j e.key d) ≡ true
  value-dot-placed {e} i j v p d =
      let r = dot_record 4 j e.key d in
      let all = places_from (value_record e.key) 0 (values_in e) in
      let whole : ahead r all ≡ all = those-all (λ s. before s r) all (λ z k. let y = places-means (value_record e.key) 0 (values_in e) z k in
      rw y.given (by_kind (value_record e.key (0 + y.place) y.source) r (omega arith))) in
      let long = values_seen i r ∙ ap length whole ∙ length-places (value_record e.key) 0 (values_in e) in
      both (some (value_dot_fits r) (entries_for (seen r))) true
      (entry_seen i r (omega arith) (value_dot_fits r)
      (both (eqb e.key e.key) (ltb j (length (values_in (entry_in (seen r) e.key)))) (eq-eqb e.key e.key refl)
      (lt-ltb j _ (rw long (place-below p))))) refl

  -- the waiting removals before one, and one with keys, have dots
  waiting-dot-placed : {q : Removal} (j : ℕ) → Place q j (waiting_in m) → (d : Dot) → finds_place (seen (dot_record 5 j 0 d)) (dot_record 5 j 0 d)
      ≡ true
  waiting-dot-placed zero p d = le-leb 0 (waiting_count (seen (dot_record 5 0 0 d))) (omega arith)
  waiting-dot-placed (suc j) p d =
      let r = dot_record 5 (suc j) 0 d in
      let y = waiting-stands h (place-get (waiting_in m) j no_removal (let b = place-below p in omega arith)) in
      let s = dot_record 5 j 0 y.0 in
      le-leb (suc j) (waiting_count (seen r)) (omega (arith, indexes-below (seen r) s (seen-has r y.1 (by_index s r refl refl (omega arith))) refl))

  waiting-key-placed : {q : Removal} (j : ℕ) → Place q j (waiting_in m) → (k : ℕ) → finds_place (seen (key_record 6 j k)) (key_record 6 j k) ≡ true
  waiting-key-placed j p k =
      let r = key_record 6 j k in
      let y = waiting-stands h p in
      let s = dot_record 5 j 0 y.0 in
      lt-ltb j (waiting_count (seen r)) (indexes-below (seen r) s (seen-has r y.1 (by_kind s r (omega arith))) refl)

  each_placed : each finds_place (map_records m) ≡ true
  each_placed = each_of finds_place (map_records m) (records-ascend h) (λ r i. go (stands-part (seen_by m) (entries_in m) (waiting_in m) r i))
    where
      go : {r : Record} → Part (seen_by m) (entries_in m) (waiting_in m) r → finds_place (seen r) r ≡ true
      go (clock-dot d i e) = rw e refl
      go (entry-dot e i d k q) = rw q refl
      go (value e i j v p q) = rw q (value-placed i j v p)
      go (value-dot e i j v p d k q) = rw q (value-dot-placed i j v p d)
      go (waiting-dot j q p d k e) = rw e (waiting-dot-placed j p d)
      go (waiting-key j q p k i e) = rw (e ∙ key-record j k (index-low h p)) (waiting-key-placed j p k)

  entries-whole : every (entry_whole (clock_in (map_records m))) (entries_for (map_records m)) ≡ true
  entries-whole =
      rw (clock-again h, entries-again h)
      (every_of (entry_whole (seen_by m)) (entries_in m)
      (λ e i. let v = h.valid.entries.each e i in
      both (covers (seen_by m) (dots_in e)) (every dotted (values_in e)) v.covered
      (every_of dotted (values_in e) (λ x j. ap not (v.values x j).some))))

  waiting-ascends : ascend (waiting_for (map_records m)) ≡ true
  waiting-ascends = rw (waiting-again h) (neighbours-ascend (waiting_in m) h.valid.waiting.rising)

  pub records-related : related (map_records m) ≡ true
  unfolding related
  records-related = both (each finds_place (map_records m)) _ each_placed
      (both _ (ascend (waiting_for (map_records m))) entries-whole waiting-ascends)
