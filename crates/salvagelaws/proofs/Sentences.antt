-- Of what step 5 leaves every sentence of 01 on related records holds.
use mathlib.Core.Path.{◌≡◌, refl, ap, ap₂, sym, ◌∙◌}
use mathlib.Core.Bool.{true}
use mathlib.Core.List.Memᴰ
use mathlib.Core.List.{List, [], ◌∷◌, map}
use Prim.Native.Nat.{ℕ, ◌≤◌, ◌<◌}
use native.Mathlib.Omega.{arith}
use borrow.Author.Tests.{eq-eqb}
use Rattle.listlaws.specs.Order.{◌∈◌, Ascending}
use Rattle.listlaws.specs.Sift.{those}
use Rattle.listlaws.proofs.Those.{those-means, those-holds, those-ascends}
use Rattle.clock.specs.Dots.{counter_in}
use Rattle.clock.proofs.Counters.{counter-member}
use Rattle.removals.specs.Waits.{clock_before}
use Rattle.records.specs.declared.Record.{Record}
use Rattle.records.specs.Kinds.{before}
use Rattle.scan.specs.Numbers.{scan_number}
use Rattle.scan.proofs.Befores.{before-fields}
use Rattle.scan.proofs.Rooms.{no_key}
use Rattle.clockimage.specs.Image.{is_kind, dot_of, dots_from}
use Rattle.clockimage.specs.ClockImage.{clock_in}
use Rattle.maprecords.specs.Reading.{under_index}
use Rattle.acceptancelaws.proofs.Grouped.{rises}
use Rattle.acceptancelaws.proofs.Limited.{at-index}
use Rattle.acceptancelaws.proofs.Entered.{clock-lawful}
use Rattle.oneimagelaws.proofs.Selected.{selected}
use Rattle.sentencelaws.specs.Sentences.{Stands, RecordUnder, UnderKey, UnderIndex, MapSentences}
use Rattle.salvagerules.specs.Indexes.{new_index, waiting_clock, waiting_indexes, is_lowest, waiting_index}
use Rattle.salvagelaws.proofs.Counting.{pairs-ascend}
use Rattle.salvagelaws.proofs.Stages.{united, renamed}
use Rattle.salvagelaws.proofs.Fourth.{Supplied}
use Rattle.salvagelaws.proofs.Values.{values_below, below-filled}
use Rattle.salvagelaws.proofs.Waiting.{index-all, index-from, lowest-has, index_same, index-filled, clock-order}
use Rattle.salvagelaws.proofs.Fifth.{new-value, new-dot, new-clock, new-key, renamed-plain}
use Rattle.salvagelaws.proofs.Fifth.{before_of, good, united-in, united-plain, united-clock}
use Rattle.salvagelaws.proofs.Fifth.{united-lowest, written, written-ascends, written_from, written-holds}
use Rattle.salvagelaws.proofs.Limited.{clocks-one, key-known, written-scan}

-- a record of a group, and the fields of one that is written
under_of : (kind index : ℕ) (r : Record) → UnderIndex kind index r → under_index kind index r ≡ true
under_of kind index r u = rw (eq-eqb r.kind kind u.0, eq-eqb r.index index u.1)

dots-renamed : (k l : List Record) → map dot_of (map (renamed k) l) ≡ map dot_of l
dots-renamed k [] = refl
dots-renamed k (r ∷ l) = ap (λ m. dot_of r ∷ m) (dots-renamed k l)

module _ (k : List Record) (h : Supplied k) where
  z : scan_number 1 6 k ≡ 0
  z = h.scan

  abbrev w : List Record
  w = written k

  -- what stands behind a record that is written
  pub record Source (r : Record) : Type 0 where
    pub old : Record
    pub stays : old ∈ united k
    pub named : r ≡ renamed k old
    pub stood : old ∈ k

  source : (r : Record) → r ∈ w → Source r
  source r i = let (y, j, e) = written_from k i in record { old = y; stays = j; named = e; stood = united-in k z j }

  kind-of : {r : Record} (s : Source r) → s.old.kind ≡ r.kind
  kind-of s = ap (λ (q : Record). q.kind) (sym s.named)

  key_of : {r : Record} (s : Source r) → s.old.key ≡ r.key
  key_of s = ap (λ (q : Record). q.key) (sym s.named)

  index_of : {r : Record} (s : Source r) → new_index k s.old ≡ r.index
  index_of s = ap (λ (q : Record). q.index) (sym s.named)

  -- a value and its dots take one index
  one_place : (v d : Record) → v.kind ≡ 3 → d.kind ≡ 4 → d.key ≡ v.key → d.index ≡ v.index → new_index k d ≡ new_index k v
  one_place v d e f y i = new-dot k d f ∙ ap₂ (values_below k) y i ∙ sym (new-value k v e)

  plain-written : (r : Record) → r ∈ k → r.kind < 5 → renamed k r ∈ w
  plain-written r i b = written-holds k r (united-plain k z r i b)

  entry-written : (r : Record) → r ∈ k → r.kind ≡ 2 → r ∈ w
  entry-written r i e = Memᴰ.cast (sym (renamed-plain k r (omega arith))) (plain-written r i (omega arith))

  clock-written : (r : Record) → r ∈ k → r.kind ≡ 1 → r ∈ w
  clock-written r i e = Memᴰ.cast (sym (renamed-plain k r (omega arith))) (plain-written r i (omega arith))

  value-needs-dot : (r : Record) → r ∈ w → r.kind ≡ 3 → Stands w (RecordUnder 4 r.key r.index)
  value-needs-dot r i e =
      let s = source r i in
      let v = s.old in
      let (d, m, u) = h.dotted v s.stood (kind-of s ∙ e) in (
        renamed k d,
        plain-written d m (omega (arith, u.0)),
        (
          u.0,
          (
            u.1.0 ∙ key_of s,
            one_place v d (kind-of s ∙ e) u.0 u.1.0 u.1.1 ∙ index_of s,
          ),
        ),
      )

  dot-needs-value : (r : Record) → r ∈ w → r.kind ≡ 4 → Stands w (RecordUnder 3 r.key r.index)
  dot-needs-value r i e =
      let s = source r i in
      let (v, m, u) = h.valued s.old s.stood (kind-of s ∙ e) in (
        renamed k v,
        plain-written v m (omega (arith, u.0)),
        (
          u.0,
          (
            u.1.0 ∙ key_of s,
            sym (one_place v s.old u.0 (kind-of s ∙ e) (sym u.1.0) (sym u.1.1)) ∙ index_of s,
          ),
        ),
      )

  value-needs-entry : (r : Record) → r ∈ w → r.kind ≡ 3 → Stands w (UnderKey 2 r.key)
  value-needs-entry r i e =
      let s = source r i in
      let (q, m, u) = h.entry s.old s.stood (kind-of s ∙ e) in
      (q, entry-written q m u.0, (u.0, u.1 ∙ key_of s))

  dot-needs-entry : (r : Record) → r ∈ w → r.kind ≡ 4 → Stands w (UnderKey 2 r.key)
  dot-needs-entry r i e =
      let s = source r i in
      let (v, m, u) = h.valued s.old s.stood (kind-of s ∙ e) in
      let (q, n, t) = h.entry v m u.0 in
      (q, entry-written q n t.0, (t.0, t.1 ∙ u.1.0 ∙ key_of s))

  values-no-gap : (r : Record) → r ∈ w → r.kind ≡ 3 → (j : ℕ) → j < r.index → Stands w (RecordUnder 3 r.key j)
  values-no-gap r i e j b =
      let s = source r i in
      let y = s.old in
      let below : j < values_below k y.key y.index = omega (arith, index_of s, new-value k y (kind-of s ∙ e)) in
      let (v, m, u, n) = below-filled k z y.key r y.index j below in (
        renamed k v,
        plain-written v m (omega (arith, u.0)),
        (
          u.0,
          (
            u.1 ∙ key_of s,
            new-value k v u.0 ∙ ap (λ a. values_below k a v.index) u.1 ∙ n,
          ),
        ),
      )

  -- a clock dot of a lowest index
  lowest-written : (j : ℕ) → j ∈ waiting_indexes k → is_lowest k j ≡ true → Stands w (UnderIndex 5 (waiting_index k j))
  lowest-written j m t =
      let (s, n, u) = index-from k z j m in (
        renamed k s,
        written-holds k s (united-clock k z s n u.0 (ap (is_lowest k) u.1 ∙ t)),
        (u.0, new-clock k s u.0 ∙ ap (waiting_index k) u.1),
      )

  waiting-no-gap : (r : Record) → r ∈ w → r.kind ≡ 5 → (j : ℕ) → j < r.index → Stands w (UnderIndex 5 j)
  waiting-no-gap r i e j b =
      let s = source r i in
      let y = s.old in
      let below : j < waiting_index k y.index = omega (arith, index_of s, new-clock k y (kind-of s ∙ e)) in
      let (n, m, t, q) = index-filled k z y.index j below in
      let (d, o, u) = lowest-written n m t in
      (d, o, (u.0, u.1 ∙ q))

  key-needs-clock : (r : Record) → r ∈ w → r.kind ≡ 6 → Stands w (UnderIndex 5 r.index)
  key-needs-clock r i e =
      let s = source r i in
      let y = s.old in
      let (n, m, t, q) = lowest-has k y.index (key-known k h y s.stood (kind-of s ∙ e)) in
      let (d, o, u) = lowest-written n m t in
      (d, o, (u.0, u.1 ∙ index_same k n y.index q ∙ sym (new-key k y (kind-of s ∙ e)) ∙ index_of s))

  -- the dots under a new index are those under the old
  module _ (y : Record) (j : y ∈ united k) (e : y.kind ≡ 5) where
    abbrev old : List Record
    old = those (under_index 5 y.index) k

    old-in : {u : Record} → u ∈ old → (u ∈ k) × UnderIndex 5 y.index u
    old-in {u} i = let m = those-means (under_index 5 y.index) k i in (m.0, at-index y.index 5 u m.1)

    old-ascends : Ascending before (map (renamed k) old)
    old-ascends = pairs-ascend before before (renamed k) old (those-ascends (under_index 5 y.index) (rises 1 6 k z)) (λ a c p q b.
        let f = old-in p in
        let g = old-in q in
        let kind = f.1.0 ∙ sym g.1.0 in
        let index = f.1.1 ∙ sym g.1.1 in
        let key = no_key 1 6 a (good k z a f.0) f.1.0 refl ∙ sym (no_key 1 6 c (good k z c g.0) g.1.0 refl) in
        before_of (renamed k a) (renamed k c) kind (omega arith)
        (λ s. mathlib.Core.Logic.inr (
          new-clock k a f.1.0 ∙ ap (waiting_index k) index ∙ sym (new-clock k c g.1.0),
          (before-fields b).actor kind key index,
        )))

    pub dots-kept : dots_from (under_index 5 (new_index k y)) w ≡ waiting_clock k y.index
    dots-kept =
        ap (map dot_of) (selected (under_index 5 (new_index k y)) (written-ascends k h) {target = map (renamed k) old} old-ascends
        (λ r i t. let s = source r i in
        let a = at-index (new_index k y) 5 r t in
        let same = clocks-one k h s.old y s.stays j (kind-of s ∙ a.0) e (index_of s ∙ a.1) in
        Memᴰ.cast s.named (Memᴰ.map (renamed k) (those-holds (under_index 5 y.index) s.stood
        (under_of 5 y.index s.old (kind-of s ∙ a.0, same)))))
        (λ r i. let (u, m, q) = Memᴰ.of_map (renamed k) old i in
        let f = old-in m in (
          Memᴰ.cast (sym q) (written-holds k u (united-clock k z u f.0 f.1.0 (ap (is_lowest k) f.1.1 ∙ united-lowest k z y j e))),
          under_of 5 (new_index k y) r (
            ap (λ (v : Record). v.kind) (sym q) ∙ f.1.0,
            ap (λ (v : Record). v.index) (sym q) ∙ new-clock k u f.1.0
                ∙ ap (waiting_index k) f.1.1 ∙ sym (new-clock k y e),
          ),
        )))
        ∙ dots-renamed k old

  clocks-ascend : (r s : Record) → r ∈ w → s ∈ w → r.kind ≡ 5 → s.kind ≡ 5 → r.index < s.index
      → clock_before (dots_from (under_index 5 r.index) w) (dots_from (under_index 5 s.index) w) ≡ true
  clocks-ascend r s i j e f b =
      let p = source r i in
      let q = source s j in
      let x = p.old in
      let y = q.old in
      let a = kind-of p ∙ e in
      let c = kind-of q ∙ f in
      ap₂ clock_before
      (ap (λ n. dots_from (under_index 5 n) w) (sym (index_of p)) ∙ dots-kept x p.stays a)
      (ap (λ n. dots_from (under_index 5 n) w) (sym (index_of q)) ∙ dots-kept y q.stays c)
      ∙ clock-order k x.index y.index (index-all k z x p.stood a) (index-all k z y q.stood c)
      (omega (arith, index_of p, index_of q, new-clock k x a, new-clock k y c))

  dots-within : (r : Record) → r ∈ w → r.kind ≡ 2 → r.number ≤ counter_in (clock_in w) r.actor
  dots-within r i e =
      let s = source r i in
      let (c, m, u) = h.in-clock s.old s.stood (kind-of s ∙ e) in
      let here = Memᴰ.map dot_of (those-holds (is_kind 1) (clock-written c m u.0) (eq-eqb c.kind 1 u.0)) in
      let count = counter-member (clock-lawful w (written-scan k h)) here in
      let number = ap (λ (q : Record). q.number) s.named in
      let actor = u.1.0 ∙ ap (λ (q : Record). q.actor) (sym s.named) in
      let same = ap (counter_in (clock_in w)) actor in
      omega (arith, u.1.1)

  pub written-sentences : MapSentences w
  written-sentences = record {
    value-needs-dot = value-needs-dot;
    dot-needs-value = dot-needs-value;
    value-needs-entry = value-needs-entry;
    dot-needs-entry = dot-needs-entry;
    values-no-gap = values-no-gap;
    waiting-no-gap = waiting-no-gap;
    key-needs-clock = key-needs-clock;
    clocks-ascend = clocks-ascend;
    dots-within = dots-within;
  }
