-- What step 5 leaves of records that have what they need: which records, under which indexes, and that they can be put in order.
use mathlib.Core.Path.{◌≡◌, refl, ap, ap₂, sym, ◌∙◌}
use mathlib.Core.Bool.{Bool, true, false, not, ◌&&◌, ◌||◌}
use mathlib.Core.Logic.{◌⊎◌, inl, inr, ⊎_elim}
use mathlib.Core.List.Memᴰ
use mathlib.Core.List.{List, []}
use Prim.Native.Nat.{ℕ, ◌≤◌, ◌<◌}
use native.Mathlib.Omega.{arith}
use lib.Dec.{eqb, ltb, leb}
use borrow.Author.Tests.{eqb-true, eqb-false, eq-eqb, ne_eqb, ltb-true, ltb-false, leb-true}
use Rattle.listlaws.specs.Order.{◌∈◌, Ascending}
use Rattle.listlaws.proofs.Somes.{some-false}
use Rattle.records.specs.declared.Record.{Record}
use Rattle.records.specs.Kinds.{actor_of, record_ok, before}
use Rattle.records.proofs.RoundTrips.{by-fields}
use Rattle.scan.specs.Numbers.{scan_number}
use Rattle.scan.proofs.Eachs.{decide, both_left, both_right}
use Rattle.scan.proofs.Befores.{before-fields, fields-before, before-trans}
use Rattle.scan.proofs.Rooms.{unordered, no_key}
use Rattle.acceptancelaws.proofs.Grouped.{fine, rises}
use Rattle.oneimagelaws.proofs.Selected.{before-strict}
use Rattle.salvagerules.specs.Indexes.{new_index, waiting_clock, waiting_indexes, same_dots, is_lowest, waiting_index}
use Rattle.salvagerules.specs.Indexes.{of_united_clock, lists_already, key_room, kept_by_five}
use Rattle.salvagerules.specs.Steps.{in_order_by}
use Rattle.salvagelaws.proofs.Counting.{pairs-ascend}
use Rattle.salvagelaws.proofs.Walks.{parted, before-left, each_at, kept-means, kept-each, kept-ascends, passed-stays, left_kept}
use Rattle.salvagelaws.proofs.Sorts.{Leads, either_first, order-means, order-holds, order-ascends}
use Rattle.salvagelaws.proofs.Stages.{united, renamed, closed}
use Rattle.salvagelaws.proofs.Fourth.{Supplied, lower-kind}
use Rattle.salvagelaws.proofs.Values.{values_below, below-rises}
use Rattle.salvagelaws.proofs.Waiting.{index-all, lowest-means, index-rises, clocks-apart}

-- the new index, and what step 5 tests, by kind
module _ (k : List Record) (r : Record) where
  pub new-value : r.kind ≡ 3 → new_index k r ≡ values_below k r.key r.index
  new-value e = rw e

  pub new-dot : r.kind ≡ 4 → new_index k r ≡ values_below k r.key r.index
  new-dot e = rw e

  pub new-clock : r.kind ≡ 5 → new_index k r ≡ waiting_index k r.index
  new-clock e = rw e

  pub new-key : r.kind ≡ 6 → new_index k r ≡ waiting_index k r.index
  new-key e = rw e

  pub new-plain : r.kind < 3 → new_index k r ≡ r.index
  new-plain h =
      rw (
        ne_eqb r.kind 3 (λ e. omega arith),
        ne_eqb r.kind 4 (λ e. omega arith),
        ne_eqb r.kind 5 (λ e. omega arith),
        ne_eqb r.kind 6 (λ e. omega arith),
      )

  pub renamed-plain : r.kind < 3 → renamed k r ≡ r
  renamed-plain h = by-fields refl (new-plain h) refl refl refl

  module _ (seen : List Record) where
    pub five-plain : r.kind < 5 → kept_by_five k seen r ≡ true
    five-plain h = rw (ne_eqb r.kind 5 (λ e. omega arith), ne_eqb r.kind 6 (λ e. omega arith))

    pub five-clock : r.kind ≡ 5 → kept_by_five k seen r ≡ is_lowest k r.index
    five-clock e = rw e

    pub five-key : r.kind ≡ 6 → kept_by_five k seen r ≡ (not (lists_already k seen r) && key_room k seen r)
    five-key e = rw e

-- a record stands before another of its kind by its key, its index or its actor
pub before_of : (a b : Record) → a.kind ≡ b.kind → a.key ≤ b.key
    → (a.key ≡ b.key → (a.index < b.index) ⊎ ((a.index ≡ b.index) × (actor_of a < actor_of b))) → before a b ≡ true
before_of a b k y h = fields-before (record {
  kind = omega arith;
  key = λ e. y;
  index = λ e q. ⊎_elim (λ d. omega arith) (λ d. omega (arith, d.0)) (h q);
  actor = λ e q i. ⊎_elim (λ d. absurd (omega arith)) (λ d. d.1) (h q);
})

pub records-lead : Leads before
records-lead x y z t u = fields-before (before-trans (before-fields t) (before-fields u))

module _ (k : List Record) (z : scan_number 1 6 k ≡ 0) where
  pub good : (r : Record) → r ∈ k → record_ok 1 6 r ≡ true
  good r i = fine 1 6 k z r i

  pub kind-most : (r : Record) → r ∈ k → r.kind ≤ 6
  unfolding record_ok
  kind-most r i = leb-true r.kind 6 (both_left (leb r.kind 6) _ (both_right (leb 1 r.kind) _ (good r i)))

  pub kind-least : (r : Record) → r ∈ k → 1 ≤ r.kind
  unfolding record_ok
  kind-least r i = leb-true 1 r.kind (both_left (leb 1 r.kind) _ (good r i))

  -- which stay
  pub united-in : {r : Record} → r ∈ united k → r ∈ k
  united-in i = kept-means (kept_by_five k) [] k i

  pub united-ascends : Ascending before (united k)
  united-ascends = kept-ascends (kept_by_five k) [] k (rises 1 6 k z)

  pub united-plain : (r : Record) → r ∈ k → r.kind < 5 → r ∈ united k
  united-plain r i h = let p = parted k i in passed-stays (kept_by_five k) p (five-plain k r (left_kept (kept_by_five k) p) h)

  pub united-clock : (r : Record) → r ∈ k → r.kind ≡ 5 → is_lowest k r.index ≡ true → r ∈ united k
  united-clock r i e t = let p = parted k i in passed-stays (kept_by_five k) p (five-clock k r (left_kept (kept_by_five k) p) e ∙ t)

  pub united-lowest : (r : Record) → r ∈ united k → r.kind ≡ 5 → is_lowest k r.index ≡ true
  united-lowest r i e = let (p, t) = each_at (kept_by_five k) (united k) (kept-each (kept_by_five k) k) i in sym (five-clock k r p.left e) ∙ t

  -- of one key no two records of equal clocks stay
  pub united-keys : (r s : Record) → r ∈ united k → s ∈ united k → r.kind ≡ 6 → s.kind ≡ 6 → r.key ≡ s.key → before r s ≡ true
      → same_dots (waiting_clock k r.index) (waiting_clock k s.index) ≡ false
  united-keys r s i j e f y b =
      let (p, t) = each_at (kept_by_five k) (united k) (kept-each (kept_by_five k) k) j in
      let u = both_left (not (lists_already k p.left s)) _ (sym (five-key k s p.left f) ∙ t) in
      let m = before-left united-ascends p before-strict r i b in
      found (same_dots (waiting_clock k r.index) (waiting_clock k s.index))
      (ap₂ (λ a c. (a && same_dots (waiting_clock k r.index) (waiting_clock k s.index)) && c) (sym (eq-eqb r.kind 6 e))
      (sym (eq-eqb r.key s.key y)) ∙
      some-false (λ q. of_united_clock k s q && eqb q.key s.key) (unlisted (lists_already k p.left s) u) r m)
    where
      unlisted : (b : Bool) → not b ≡ true → b ≡ false
      unlisted true q = sym q
      unlisted false q = refl

      found : (b : Bool) → ((true && b) && true) ≡ false → b ≡ false
      found true q = q
      found false q = refl

-- two that stay, renamed: one stands before the other
module _ (k : List Record) (h : Supplied k) (x y : Record) (i : x ∈ united k) (j : y ∈ united k) (b : before x y ≡ true) where
  z : scan_number 1 6 k ≡ 0
  z = h.scan

  p : x ∈ k
  p = united-in k z i

  q : y ∈ k
  q = united-in k z j

  abbrev Either : Type 0
  Either = (before (renamed k x) (renamed k y) ≡ true) ⊎ (before (renamed k y) (renamed k x) ≡ true)

  unindexed : {n : ℕ} → x.kind ≡ n → y.kind ≡ n → Rattle.records.proofs.Rule.is_dot n ≡ false → x.key ≡ y.key → x.index < y.index
  unindexed e f plain key =
      let g = before-fields b in
      let most = g.index (e ∙ sym f) key in
      let none = unordered 1 6 x (good k z x p) e plain in
      let nor = unordered 1 6 y (good k z y q) f plain in
      strictly x.index y.index most (λ d. omega (arith, g.actor (e ∙ sym f) key d))
    where
      strictly : (m n : ℕ) → m ≤ n → (m ≡ n → ⊥) → m < n
      strictly m n o d = omega arith

  as_values : x.kind ≡ 3 → y.kind ≡ 3 → Either
  as_values e f = inl (before_of (renamed k x) (renamed k y) (e ∙ sym f) ((before-fields b).key (e ∙ sym f)) (λ key. inl
      (let d = unindexed e f refl key in
      let r = below-rises k z x.key x p x.index y.index (e, (refl, refl)) d in
      let s = ap (λ a. values_below k a y.index) key in
      omega (arith, new-value k x e, new-value k y f))))

  as-dots : x.kind ≡ 4 → y.kind ≡ 4 → Either
  as-dots e f = inl (before_of (renamed k x) (renamed k y) (e ∙ sym f) (g.key (e ∙ sym f)) (λ key.
      let s = ap (λ a. values_below k a y.index) key in
      decide (ltb x.index y.index)
      (λ t. let (v, m, u) = h.valued x p e in
      let r = below-rises k z x.key v m x.index y.index u (ltb-true x.index y.index t) in
      inl (omega (arith, new-dot k x e, new-dot k y f)))
      (λ n. let same : x.index ≡ y.index = omega (arith, g.index (e ∙ sym f) key, ltb-false x.index y.index n) in
      inr (new-dot k x e ∙ ap₂ (λ a c. values_below k a c) key same ∙ sym (new-dot k y f), g.actor (e ∙ sym f) key same))))
    where
      g : Rattle.scan.proofs.Befores.Before x y
      g = before-fields b

  -- waiting clocks that differ
  by-clocks : new_index k x ≡ waiting_index k x.index → new_index k y ≡ waiting_index k y.index → x.kind ≡ y.kind → x.key ≡ y.key
      → x.index ∈ waiting_indexes k → y.index ∈ waiting_indexes k → same_dots (waiting_clock k x.index) (waiting_clock k y.index) ≡ false → Either
  by-clocks d g kind key m n f =
      ⊎_elim
      (λ t. inl (before_of (renamed k x) (renamed k y) kind (omega arith)
      (λ e. inl (let r = index-rises k x.index y.index m t in omega arith))))
      (λ t. inr (before_of (renamed k y) (renamed k x) (sym kind) (omega arith)
      (λ e. inl (let r = index-rises k y.index x.index n t in omega arith))))
      (clocks-apart (waiting_clock k x.index) (waiting_clock k y.index) f)

  as-clocks : x.kind ≡ 5 → y.kind ≡ 5 → Either
  as-clocks e f =
      let g = before-fields b in
      let key = no_key 1 6 x (good k z x p) e refl ∙ sym (no_key 1 6 y (good k z y q) f refl) in
      let m = index-all k z x p e in
      let n = index-all k z y q f in
      decide (ltb x.index y.index)
      (λ t. by-clocks (new-clock k x e) (new-clock k y f) (e ∙ sym f) key m n
      (lowest-means k y.index (united-lowest k z y j f) x.index m (ltb-true x.index y.index t)))
      (λ u. let same : x.index ≡ y.index = omega (arith, g.index (e ∙ sym f) key, ltb-false x.index y.index u) in
      inl (before_of (renamed k x) (renamed k y) (e ∙ sym f) (omega arith)
      (λ w. inr (new-clock k x e ∙ ap (waiting_index k) same ∙ sym (new-clock k y f), g.actor (e ∙ sym f) key same))))

  as-keys : x.kind ≡ 6 → y.kind ≡ 6 → Either
  as-keys e f =
      let g = before-fields b in
      decide (eqb x.key y.key)
      (λ t. let key = eqb-true x.key y.key t in
      by-clocks (new-key k x e) (new-key k y f) (e ∙ sym f) key (known x p e) (known y q f) (united-keys k z x y i j e f key b))
      (λ n. inl (before_of (renamed k x) (renamed k y) (e ∙ sym f) (g.key (e ∙ sym f)) (λ w. absurd (eqb-false x.key y.key n w))))
    where
      known : (r : Record) → r ∈ k → r.kind ≡ 6 → r.index ∈ waiting_indexes k
      known r m a = let (s, n, u) = h.clocked r m a in Memᴰ.cast (sym u.1) (index-all k z s n u.0)

  either_first_lem : Either
  either_first_lem =
      let g = before-fields b in
      let six = kind-most k z y q in
      decide (ltb x.kind y.kind)
      (λ t. inl (lower-kind (renamed k x) (renamed k y) (ltb-true x.kind y.kind t)))
      (λ n. let kind : x.kind ≡ y.kind = omega (arith, g.kind, ltb-false x.kind y.kind n) in
      decide (ltb x.kind 3)
      (λ t. let low = ltb-true x.kind 3 t in
      inl (ap₂ before (renamed-plain k x low) (renamed-plain k y (omega arith)) ∙ b))
      (λ t. let high = ltb-false x.kind 3 t in
      decide (eqb x.kind 3) (λ u. let e = eqb-true x.kind 3 u in as_values e (sym kind ∙ e))
      (λ a. decide (eqb x.kind 4) (λ u. let e = eqb-true x.kind 4 u in as-dots e (sym kind ∙ e))
      (λ c. decide (eqb x.kind 5) (λ u. let e = eqb-true x.kind 5 u in as-clocks e (sym kind ∙ e))
      (λ d. let e : x.kind ≡ 6 = omega (arith, eqb-false x.kind 3 a, eqb-false x.kind 4 c, eqb-false x.kind 5 d) in
      as-keys e (sym kind ∙ e))))))

  pub either-renamed : either_first before (renamed k x) (renamed k y) ≡ true
  either-renamed = ⊎_elim (λ t. rw t) (λ t. or_right (before (renamed k x) (renamed k y)) (before (renamed k y) (renamed k x)) t) either_first_lem
    where
      or_right : (a c : Bool) → c ≡ true → (a || c) ≡ true
      or_right true c e = refl
      or_right false c e = e

-- the records that are written
abbrev pub written : List Record → List Record
written k = in_order_by before (closed k)

pub written-ascends : (k : List Record) → Supplied k → Ascending before (written k)
written-ascends k h =
    order-ascends before records-lead (closed k)
    (pairs-ascend before (either_first before) (renamed k) (united k) (united-ascends k h.scan) (λ x y i j b. either-renamed k h x y i j b))

pub written_from : (k : List Record) {x : Record} → x ∈ written k → (y : Record) × (y ∈ united k) × (x ≡ renamed k y)
written_from k i = let (y, j, e) = Memᴰ.of_map (renamed k) (united k) (order-means before (closed k) i) in (y, j, sym e)

pub written-holds : (k : List Record) (y : Record) → y ∈ united k → renamed k y ∈ written k
written-holds k y i = order-holds before (closed k) (Memᴰ.map (renamed k) i)
