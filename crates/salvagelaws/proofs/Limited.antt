-- What step 5 leaves is well formed and within the limits.
use mathlib.Core.Path.{◌≡◌, refl, ap, sym, ◌∙◌}
use mathlib.Core.Bool.{Bool, true, not, ◌&&◌}
use mathlib.Core.List.Memᴰ
use mathlib.Core.List.{List, [], ◌∷◌, ◌++◌, map}
use Prim.Native.Nat.{ℕ, ◌≤◌, ◌<◌}
use native.Mathlib.Omega.{arith}
use lib.Dec.{eqb, ltb}
use lib.ListN.{length, length-map}
use borrow.Author.Tests.{eqb-true, eqb-false, eq-eqb, ltb-true, ltb-false}
use Rattle.listlaws.specs.Order.{◌∈◌}
use Rattle.listlaws.specs.Sift.{sift, those}
use Rattle.listlaws.proofs.Orders.{apart}
use Rattle.listlaws.proofs.Pads.{length-snoc}
use Rattle.listlaws.proofs.Those.{those-holds}
use Rattle.records.specs.declared.Record.{Record}
use Rattle.records.specs.Kinds.{actor_of, record_ok}
use Rattle.scan.specs.Each.{each}
use Rattle.scan.specs.Limits.{outer, middle, inner, same_kind, same_outer, same_middle, today, outer_by, middle_by, inner_limits, limit_at, within}
use Rattle.scan.specs.Numbers.{scan_number}
use Rattle.scan.proofs.Eachs.{decide, both_left, both_right, each_snoc}
use Rattle.scan.proofs.Rooms.{those-yes, those-no, no_index, no_key, unordered}
use Rattle.scan.proofs.Scanning.{scan_good}
use Rattle.scan.proofs.Builds.{Among, scan-of}
use Rattle.clockimage.specs.Image.{is_kind, dot_of, dots_from}
use Rattle.maprecords.specs.Reading.{under_key, under_index, under_both, entry_keys, numbers_below}
use Rattle.maprecords.proofs.Counts.{by-records, entries-most}
use Rattle.maprecords.proofs.Keys.{length-below}
use Rattle.acceptancelaws.proofs.Limited.{clock-few, entry-dots-few, value-dots-few, waiting-dots-few}
use Rattle.oneimagelaws.proofs.Keyed.{keys-has}
use Rattle.oneimagelaws.proofs.Scans.{below-has}
use Rattle.salvagerules.specs.Indexes.{new_index, with_index, waiting_clock, waiting_indexes, same_dots}
use Rattle.salvagerules.specs.Indexes.{waiting_index, of_united_clock, lists_already, kept_by_five}
use Rattle.salvagelaws.proofs.Walks.{kept-each}
use Rattle.salvagelaws.proofs.Stages.{united, renamed}
use Rattle.salvagelaws.proofs.Fourth.{Supplied, outer-is, middle-is, place_at}
use Rattle.salvagelaws.proofs.Values.{values_below, below-rises, below-few}
use Rattle.salvagelaws.proofs.Waiting.{index-all, indexes-few, lowest-means, index-apart, index-few, dots-same, same-dots}
use Rattle.salvagelaws.proofs.Fifth.{new-value, new-dot, new-clock, new-key, new-plain}
use Rattle.salvagelaws.proofs.Fifth.{renamed-plain, five-key, good, kind-most, kind-least, united-in}
use Rattle.salvagelaws.proofs.Fifth.{united-lowest, written, written-ascends, written_from}

-- another index is no fault in a kind that has one
module _ (n : ℕ) (r : Record) where
  ok-value : r.kind ≡ 3 → record_ok 1 6 r ≡ true → record_ok 1 6 (with_index n r) ≡ true
  unfolding record_ok
  ok-value e t = rw e (rw e at t)

  ok-dot : r.kind ≡ 4 → record_ok 1 6 r ≡ true → record_ok 1 6 (with_index n r) ≡ true
  unfolding record_ok
  ok-dot e t = rw e (rw e at t)

  ok-clock : r.kind ≡ 5 → record_ok 1 6 r ≡ true → record_ok 1 6 (with_index n r) ≡ true
  unfolding record_ok
  ok-clock e t = rw e (rw e at t)

  ok-key : r.kind ≡ 6 → record_ok 1 6 r ≡ true → record_ok 1 6 (with_index n r) ≡ true
  unfolding record_ok
  ok-key e t = rw e (rw e at t)

-- a waiting key is counted by its index, then by its key
outer-key-kind : (r : Record) → r.kind ≡ 6 → outer r ≡ r.index
outer-key-kind r e = rw e

middle-key-kind : (r : Record) → r.kind ≡ 6 → middle r ≡ r.key
middle-key-kind r e = rw e

-- by the six kinds, of which the first two keep their index
pub by_kind : (P : Type 0) (n : ℕ) → n ≤ 6 → (n < 3 → P) → (n ≡ 3 → P) → (n ≡ 4 → P) → (n ≡ 5 → P) → (n ≡ 6 → P) → P
by_kind P n h low three four five six =
    decide (ltb n 3) (λ t. low (ltb-true n 3 t))
    (λ f. let b = ltb-false n 3 f in
    decide (eqb n 3) (λ t. three (eqb-true n 3 t))
    (λ a. decide (eqb n 4) (λ t. four (eqb-true n 4 t))
    (λ c. decide (eqb n 5) (λ t. five (eqb-true n 5 t)) (λ d. six (omega (arith, eqb-false n 3 a, eqb-false n 4 c, eqb-false n 5 d))))))

-- where each of a group finds fewer than n of it before, there are no more than n
group-few : (test : List Record → Record → Bool) (group : Record → Bool) (n : ℕ)
    → ((seen : List Record) (r : Record) → test seen r ≡ true → group r ≡ true → length (those group seen) < n)
    → (l : List Record) → each test l ≡ true → length (those group l) ≤ n
unfolding sift
group-few test group n h = by-records (λ l. each test l ≡ true → length (those group l) ≤ n) (λ e. omega arith) more
  where
    more : (l : List Record) (r : Record) → (each test l ≡ true → length (those group l) ≤ n) → each test (l ++ (r ∷ [])) ≡ true
        → length (those group (l ++ (r ∷ []))) ≤ n
    more l r p e =
        let s = sym (each_snoc test l r) ∙ e in
        decide (group r)
        (λ t. let b = h l r (both_right (each test l) (test l r) s) t in
        let q = ap length (those-yes group l r t) ∙ length-snoc (those group l) r in omega arith)
        (λ f. let q = ap length (those-no group l r f) in let b = p (both_left (each test l) (test l r) s) in omega arith)

module _ (k : List Record) (h : Supplied k) where
  z : scan_number 1 6 k ≡ 0
  z = h.scan

  abbrev w : List Record
  w = written k

  value-listed : (s : Record) → s ∈ k → s.kind ≡ 3 → s.key ∈ entry_keys k
  value-listed s i e = let (r, j, u) = h.entry s i e in Memᴰ.cast (sym u.1) (keys-has k r j u.0)

  dot-listed : (s : Record) → s ∈ k → s.kind ≡ 4 → s.key ∈ entry_keys k
  dot-listed s i e = let (r, j, u) = h.valued s i e in Memᴰ.cast (sym u.1.0) (value-listed r j u.0)

  entries-few : length (entry_keys k) ≤ 32
  unfolding within
  entries-few = entries-most today k (scan_good 1 6 k z).1

  pub key-known : (s : Record) → s ∈ k → s.kind ≡ 6 → s.index ∈ waiting_indexes k
  key-known s i e = let (r, j, u) = h.clocked s i e in Memᴰ.cast (sym u.1) (index-all k z r j u.0)

  place-few : (i : ℕ) → i ∈ waiting_indexes k → waiting_index k i ∈ numbers_below 16
  place-few i m = below-has 16 (waiting_index k i) (let a = index-few k i m in let b = indexes-few k z in omega arith)

  -- each is good by itself
  pub written-good : (x : Record) → x ∈ w → record_ok 1 6 x ≡ true
  written-good x i =
      let (u, j, e) = written_from k i in
      let m = united-in k z j in
      let ok = good k z u m in
      ap (record_ok 1 6) e
      ∙ by_kind (record_ok 1 6 (renamed k u) ≡ true) u.kind (kind-most k z u m) (λ a. ap (record_ok 1 6) (renamed-plain k u a) ∙ ok)
      (λ a. ok-value (new_index k u) u a ok) (λ a. ok-dot (new_index k u) u a ok) (λ a. ok-clock (new_index k u) u a ok)
      (λ a. ok-key (new_index k u) u a ok)

  -- indexes that become one were one
  pub dots-one : (x y : Record) → x ∈ k → y ∈ k → x.kind ≡ 4 → y.kind ≡ 4 → x.key ≡ y.key → new_index k x ≡ new_index k y → x.index ≡ y.index
  dots-one x y i j e f key n =
      let (v, a, b) = h.valued x i e in
      let (o, c, d) = h.valued y j f in
      let s = ap (λ q. values_below k q y.index) key in
      decide (eqb x.index y.index) (λ t. eqb-true x.index y.index t)
      (λ q. let other = eqb-false x.index y.index q in
      decide (ltb x.index y.index)
      (λ t. absurd (let r = below-rises k z x.key v a x.index y.index b (ltb-true x.index y.index t) in
      omega (arith, new-dot k x e, new-dot k y f)))
      (λ t. let g = ltb-false x.index y.index t in
      let less : y.index < x.index = strictly y.index x.index g (λ p. other (sym p)) in
      absurd (let r = below-rises k z x.key o c y.index x.index (d.0, (d.1.0 ∙ sym key, d.1.1)) less in
      omega (arith, new-dot k x e, new-dot k y f))))
    where
      strictly : (m n : ℕ) → m ≤ n → (m ≡ n → ⊥) → m < n
      strictly m n o d = omega arith

  pub clocks-one : (x y : Record) → x ∈ united k → y ∈ united k → x.kind ≡ 5 → y.kind ≡ 5 → new_index k x ≡ new_index k y → x.index ≡ y.index
  clocks-one x y i j e f n =
      let p = index-all k z x (united-in k z i) e in
      let q = index-all k z y (united-in k z j) f in
      let c = index-apart k x.index y.index p q (sym (new-clock k x e) ∙ n ∙ new-clock k y f) in
      decide (ltb x.index y.index)
      (λ t. apart (sym (dots-same (waiting_clock k x.index) (waiting_clock k y.index) c)
      ∙ lowest-means k y.index (united-lowest k z y j f) x.index p (ltb-true x.index y.index t)))
      (λ a. decide (ltb y.index x.index)
      (λ t. apart (sym (dots-same (waiting_clock k y.index) (waiting_clock k x.index) (sym c))
      ∙ lowest-means k x.index (united-lowest k z x i e) y.index q (ltb-true y.index x.index t)))
      (λ b. omega (arith, ltb-false x.index y.index a, ltb-false y.index x.index b)))

  -- the keys of a united clock
  abbrev pub united_keys : Record → List Record
  united_keys y = those (of_united_clock k y) (united k)

  pub keys-few : (y : Record) → length (united_keys y) ≤ 16
  keys-few y = group-few (kept_by_five k) (of_united_clock k y) 16 before-it (united k) (kept-each (kept_by_five k) k)
    where
      before-it : (seen : List Record) (r : Record) → kept_by_five k seen r ≡ true
          → of_united_clock k y r ≡ true → length (those (of_united_clock k y) seen) < 16
      before-it seen r t u =
          let e = eqb-true r.kind 6 (both_left (eqb r.kind 6) _ u) in
          let same = same-dots (waiting_clock k r.index) (waiting_clock k y.index) (both_right (eqb r.kind 6) _ u) in
          let room = both_right (not (lists_already k seen r)) _ (sym (five-key k r seen e) ∙ t) in
          let least = ltb-true (length (those (of_united_clock k r) seen)) 16 room in
          let turn = ap (λ c. length (those (λ s. is_kind 6 s && same_dots (waiting_clock k s.index) c) seen)) same in
          omega arith

  -- a record that is written, beside others of its kind
  module _ (y : Record) (j : y ∈ united k) where
    abbrev r : Record
    r = renamed k y

    m : y ∈ k
    m = united-in k z j

    abbrev Peer : Record → Record → Type 0
    Peer x u = (u ∈ united k) × (x ≡ renamed k u) × (u.kind ≡ y.kind)

    peer : (x : Record) → x ∈ w → same_kind r x ≡ true → (u : Record) × Peer x u
    peer x i t = let (u, a, e) = written_from k i in (u, (a, e, ap (λ (q : Record). q.kind) (sym e) ∙ eqb-true x.kind y.kind t))

    same-outer : (x : Record) → same_outer r x ≡ true → (same_kind r x ≡ true) × (outer x ≡ outer r)
    same-outer x t = (both_left (same_kind r x) _ t, eqb-true (outer x) (outer r) (both_right (same_kind r x) _ t))

    same-middle : (x : Record) → same_middle r x ≡ true → (same_outer r x ≡ true) × (middle x ≡ middle r)
    same-middle x t = (both_left (same_outer r x) _ t, eqb-true (middle x) (middle r) (both_right (same_outer r x) _ t))

    module _ (plain : y.kind < 6) where
      outer-at : {x u : Record} → Peer x u → outer x ≡ u.key
      outer-at {x} {u} p = ap outer p.1 ∙ outer-is (renamed k u) (λ e. omega (arith, p.2))

      middle-at : {x u : Record} → Peer x u → middle x ≡ new_index k u
      middle-at {x} {u} p = ap middle p.1 ∙ middle-is (renamed k u) (λ e. omega (arith, p.2))

      inner-at : {x u : Record} → Peer x u → inner x ≡ actor_of u
      inner-at p = ap inner p.1

      own-outer : outer r ≡ y.key
      own-outer = outer-is r (λ e. omega arith)

      own-middle : middle r ≡ new_index k y
      own-middle = middle-is r (λ e. omega arith)

      -- numbers among which lie those of its peers
      plain-among : (os ms is : List ℕ) → ((u : Record) → u ∈ united k → u.kind ≡ y.kind → u.key ∈ os)
          → ((u : Record) → u ∈ united k → u.kind ≡ y.kind → u.key ≡ y.key → new_index k u ∈ ms)
          → ((u : Record) → u ∈ united k → u.kind ≡ y.kind → u.key ≡ y.key → new_index k u ≡ new_index k y → actor_of u ∈ is)
          → length os ≤ limit_at (outer_by today) y.kind → length ms ≤ limit_at (middle_by today) y.kind
          → length is ≤ limit_at inner_limits y.kind → Among w r
      plain-among os ms is f g e a b c = record {
        outers = os;
        middles = ms;
        inners = is;
        in-outers = λ x i t. let (u, p) = peer x i t in Memᴰ.cast (outer-at p) (f u p.0 p.2);
        in-middles = λ x i t. let o = same-outer x t in
            let (u, p) = peer x i o.0 in
            Memᴰ.cast (middle-at p) (g u p.0 p.2 (sym (outer-at p) ∙ o.1 ∙ own-outer));
        in-inners = λ x i t. let n = same-middle x t in
            let o = same-outer x n.0 in
            let (u, p) = peer x i o.0 in
            Memᴰ.cast (inner-at p) (e u p.0 p.2 (sym (outer-at p) ∙ o.1 ∙ own-outer) (sym (middle-at p) ∙ n.1 ∙ own-middle));
        few-outers = a;
        few-middles = b;
        few-inners = c;
      }

    zero_in : {n : ℕ} → n ≡ 0 → n ∈ (0 ∷ [])
    zero_in e = Memᴰ.head e

    -- the actors of those in k that pass a test
    actor-in : (test : Record → Bool) (u : Record) → u ∈ united k → test u ≡ true → actor_of u ∈ map actor_of (those test k)
    actor-in test u i t = Memᴰ.map actor_of (those-holds test (united-in k z i) t)

    actors-few : (test : Record → Bool) → length (dots_from test k) ≤ 8 → length (map actor_of (those test k)) ≤ 8
    actors-few test b = omega (arith, length-map (those test k) dot_of, length-map (those test k) actor_of)

    ok : (u : Record) → u ∈ united k → record_ok 1 6 u ≡ true
    ok u i = good k z u (united-in k z i)

    clock-among : y.kind ≡ 1 → Among w r
    clock-among e =
        plain-among (omega arith) (0 ∷ []) (0 ∷ []) (map actor_of (those (is_kind 1) k))
        (λ u i d. zero_in (no_key 1 6 u (ok u i) (d ∙ e) refl))
        (λ u i d q. zero_in (new-plain k u (omega arith) ∙ no_index 1 6 u (ok u i) (d ∙ e) refl))
        (λ u i d q n. actor-in (is_kind 1) u i (eq-eqb u.kind 1 (d ∙ e)))
        (rw e (omega arith)) (rw e (omega arith)) (rw e (actors-few (is_kind 1) (clock-few k z)))

    entry-among : y.kind ≡ 2 → Among w r
    entry-among e =
        plain-among (omega arith) (entry_keys k) (0 ∷ []) (map actor_of (those (under_key 2 y.key) k))
        (λ u i d. keys-has k u (united-in k z i) (d ∙ e))
        (λ u i d q. zero_in (new-plain k u (omega arith) ∙ no_index 1 6 u (ok u i) (d ∙ e) refl))
        (λ u i d q n. actor-in (under_key 2 y.key) u i (rw (eq-eqb u.kind 2 (d ∙ e), eq-eqb u.key y.key q)))
        (rw e entries-few) (rw e (omega arith)) (rw e (actors-few (under_key 2 y.key) (entry-dots-few y.key k z)))

    value-among : y.kind ≡ 3 → Among w r
    value-among e =
        plain-among (omega arith) (entry_keys k) (numbers_below 4) (0 ∷ [])
        (λ u i d. value-listed u (united-in k z i) (d ∙ e))
        (λ u i d q. below-has 4 (new_index k u) (rw (new-value k u (d ∙ e))
        (below-few k z u.key u (united-in k z i) u.index (d ∙ e, (refl, refl)))))
        (λ u i d q n. zero_in (unordered 1 6 u (ok u i) (d ∙ e) refl))
        (rw e entries-few) (rw e (let b = length-below 4 in omega arith)) (rw e (omega arith))

    dot-among : y.kind ≡ 4 → Among w r
    dot-among e =
        plain-among (omega arith) (entry_keys k) (numbers_below 4) (map actor_of (those (under_both 4 y.key y.index) k))
        (λ u i d. dot-listed u (united-in k z i) (d ∙ e))
        (λ u i d q. let (v, a, b) = h.valued u (united-in k z i) (d ∙ e) in
        below-has 4 (new_index k u) (rw (new-dot k u (d ∙ e)) (below-few k z u.key v a u.index b)))
        (λ u i d q n. actor-in (under_both 4 y.key y.index) u i
        (place_at 4 y.key y.index u (d ∙ e, (q, dots-one u y (united-in k z i) m (d ∙ e) e q n))))
        (rw e entries-few) (rw e (let b = length-below 4 in omega arith))
        (rw e (actors-few (under_both 4 y.key y.index) (value-dots-few y.key y.index k z)))

    waiting_among : y.kind ≡ 5 → Among w r
    waiting_among e =
        plain-among (omega arith) (0 ∷ []) (numbers_below 16) (map actor_of (those (under_index 5 y.index) k))
        (λ u i d. zero_in (no_key 1 6 u (ok u i) (d ∙ e) refl))
        (λ u i d q. Memᴰ.cast (new-clock k u (d ∙ e)) (place-few u.index (index-all k z u (united-in k z i) (d ∙ e))))
        (λ u i d q n. actor-in (under_index 5 y.index) u i
        (rw (eq-eqb u.kind 5 (d ∙ e), eq-eqb u.index y.index (clocks-one u y i j (d ∙ e) e n))))
        (rw e (omega arith)) (rw e (let b = length-below 16 in omega arith))
        (rw e (actors-few (under_index 5 y.index) (waiting-dots-few y.index k z)))

    key-among : y.kind ≡ 6 → Among w r
    key-among e = record {
      outers = numbers_below 16;
      middles = map (λ (u : Record). u.key) (united_keys y);
      inners = 0 ∷ [];
      in-outers = λ x i t. let (u, p) = peer x i t in
          Memᴰ.cast (outer-six p) (Memᴰ.cast (new-key k u (p.2 ∙ e)) (place-few u.index (known p)));
      in-middles = λ x i t. let o = same-outer x t in
          let (u, p) = peer x i o.0 in
          let n = sym (outer-six p) ∙ o.1 ∙ own-six in
          let c = index-apart k u.index y.index (known p) (key-known y m e) (sym (new-key k u (p.2 ∙ e)) ∙ n ∙ new-key k y e) in
          Memᴰ.cast (middle-six p) (Memᴰ.map (λ (q : Record). q.key) (those-holds (of_united_clock k y) p.0
          (rw (eq-eqb u.kind 6 (p.2 ∙ e)) (dots-same (waiting_clock k u.index) (waiting_clock k y.index) c))));
      in-inners = λ x i t. let n = same-middle x t in
          let o = same-outer x n.0 in
          let (u, p) = peer x i o.0 in
          zero_in (ap inner p.1 ∙ unordered 1 6 u (ok u p.0) (p.2 ∙ e) refl);
      few-outers = rw e (let b = length-below 16 in omega arith);
      few-middles = rw e (let b = length-map (united_keys y) (λ (u : Record). u.key) in let c = keys-few y in omega arith);
      few-inners = rw e (omega arith);
    }
      where
        outer-six : {x u : Record} → Peer x u → outer x ≡ new_index k u
        outer-six {x} {u} p = ap outer p.1 ∙ outer-key-kind (renamed k u) (p.2 ∙ e)

        middle-six : {x u : Record} → Peer x u → middle x ≡ u.key
        middle-six {x} {u} p = ap middle p.1 ∙ middle-key-kind (renamed k u) (p.2 ∙ e)

        own-six : outer r ≡ new_index k y
        own-six = outer-key-kind r e

        known : {x u : Record} → Peer x u → u.index ∈ waiting_indexes k
        known {x} {u} p = key-known u (united-in k z p.0) (p.2 ∙ e)

    among : Among w r
    among =
        by_kind (Among w r) y.kind (kind-most k z y m)
        (λ a. decide (eqb y.kind 1) (λ t. clock-among (eqb-true y.kind 1 t))
        (λ f. entry-among (omega (arith, eqb-false y.kind 1 f, kind-least k z y m))))
        value-among dot-among waiting_among key-among

  pub written-scan : scan_number 1 6 w ≡ 0
  written-scan =
      scan-of 1 6 w (written-ascends k h) written-good
      (λ x i. let (u, j, e) = written_from k i in rw e (among u j))
