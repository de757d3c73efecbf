-- The indexes of a key's values with gaps closed: they rise with the old ones, lie within the limit, and none is left out.
use mathlib.Core.Path.{◌≡◌, refl, ap, sym, ◌∙◌}
use mathlib.Core.Bool.{true, false, ◌&&◌}
use mathlib.Core.List.Memᴰ
use mathlib.Core.List.{List, [], ◌∷◌}
use Prim.Native.Nat.{ℕ, ◌≤◌, ◌<◌}
use native.Mathlib.Omega.{arith}
use lib.Dec.{ltb}
use lib.ListN.{length, get_or}
use borrow.Author.Tests.{eq-eqb, ltb-true, lt-ltb, le-ltb}
use Rattle.listlaws.specs.Order.{◌∈◌, Ascending, nil, next, by}
use Rattle.listlaws.specs.Sift.{those}
use Rattle.listlaws.proofs.Orders.{by-strict}
use Rattle.listlaws.proofs.Those.{those-means, those-holds, those-those, those-ascends}
use Rattle.records.specs.declared.Record.{Record}
use Rattle.records.specs.Kinds.{before}
use Rattle.scan.specs.Numbers.{scan_number}
use Rattle.scan.proofs.Befores.{before-fields}
use Rattle.scan.proofs.Rooms.{unordered}
use Rattle.scan.proofs.Eachs.{both, both_left, both_right}
use Rattle.maprecords.specs.Reading.{under_key}
use Rattle.acceptancelaws.proofs.Grouped.{fine, rises}
use Rattle.acceptancelaws.proofs.Limited.{at_key, values-few}
use Rattle.sentencelaws.specs.Sentences.{UnderKey, RecordUnder}
use Rattle.salvagelaws.proofs.Counting.{count_less, count-few, count-all, get_in}
use Rattle.salvagelaws.proofs.Sorts.{place-counts}

-- how many values of a key have a lower index
abbrev pub values_below : List Record → ℕ → ℕ → ℕ
values_below k key index = length (those (λ s. under_key 3 key s && ltb s.index index) k)

module _ (k : List Record) (z : scan_number 1 6 k ≡ 0) (key : ℕ) where
  abbrev pub values_of : List Record
  values_of = those (under_key 3 key) k

  -- a value of the key has passed, and is not below itself
  passes : (v : Record) (i j : ℕ) → RecordUnder 3 key i v → i < j → (under_key 3 key v && ltb v.index j) ≡ true
  passes v i j u h = rw (eq-eqb v.kind 3 u.0, eq-eqb v.key key u.1.0, u.1.1, lt-ltb i j h)

  fails : (v : Record) (i : ℕ) → RecordUnder 3 key i v → (under_key 3 key v && ltb v.index i) ≡ false
  fails v i u = rw (eq-eqb v.kind 3 u.0, eq-eqb v.key key u.1.0, u.1.1, le-ltb i i (omega arith))

  pub below-rises : (v : Record) → v ∈ k → (i j : ℕ) → RecordUnder 3 key i v → i < j → values_below k key i < values_below k key j
  below-rises v m i j u h =
      count_less (λ s. under_key 3 key s && ltb s.index i) (λ s. under_key 3 key s && ltb s.index j) k
      (λ s n t. both (under_key 3 key s) (ltb s.index j) (both_left (under_key 3 key s) (ltb s.index i) t)
      (lt-ltb s.index j (let b = ltb-true s.index i (both_right (under_key 3 key s) (ltb s.index i) t) in omega arith)))
      m (fails v i u) (passes v i j u h)

  pub counted : (i : ℕ) → length (those (λ s. ltb s.index i) values_of) ≡ values_below k key i
  counted i = ap length (those-those (λ s. ltb s.index i) (under_key 3 key) k)

  pub below-few : (v : Record) → v ∈ k → (i : ℕ) → RecordUnder 3 key i v → values_below k key i < 4
  below-few v m i u =
      let few = values-few key k z in
      let less = count-few (λ s. ltb s.index i) values_of
      (those-holds (under_key 3 key) m (rw (eq-eqb v.kind 3 u.0, eq-eqb v.key key u.1.0)))
      (rw u.1.1 (le-ltb i i (omega arith))) in
      omega (arith, counted i)

  -- values of one key ascend by their indexes
  pub values-rise : Ascending (by (λ (r : Record). r.index)) values_of
  values-rise = go values_of (those-ascends (under_key 3 key) (rises 1 6 k z)) (λ x i. those-means (under_key 3 key) k i)
    where
      less : (x y : Record) → (x ∈ k) × (under_key 3 key x ≡ true) → (y ∈ k) × (under_key 3 key y ≡ true) → before x y ≡ true → x.index < y.index
      less x y p q b =
          let f = before-fields b in
          let a = at_key key 3 x p.1 in
          let c = at_key key 3 y q.1 in
          let kind = a.0 ∙ sym c.0 in
          let under = a.1 ∙ sym c.1 in
          let most = f.index kind under in
          let none = unordered 1 6 x (fine 1 6 k z x p.0) a.0 refl in
          let nor = unordered 1 6 y (fine 1 6 k z y q.0) c.0 refl in
          strictly x.index y.index most (λ e. omega (arith, f.actor kind under e))
        where
          strictly : (m n : ℕ) → m ≤ n → (m ≡ n → ⊥) → m < n
          strictly m n h d = omega arith

      go : (l : List Record) → Ascending before l → ((x : Record) → x ∈ l → (x ∈ k) × (under_key 3 key x ≡ true))
          → Ascending (by (λ (r : Record). r.index)) l
      go [] a h = nil
      go (x ∷ l) (next f a) h =
          next {x = x}
          (λ y i. lt-ltb x.index y.index (less x y (h x (Memᴰ.head refl)) (h y (Memᴰ.tail i)) (f y i)))
          (go l a (λ y i. h y (Memᴰ.tail i)))

  pub below-filled : (d : Record) (i n : ℕ) → n < values_below k key i
      → (v : Record) × (v ∈ k) × UnderKey 3 key v × (values_below k key v.index ≡ n)
  below-filled d i n h =
      let most = count-all (λ s. ltb s.index i) values_of in
      let here : n < length values_of = omega (arith, counted i) in
      let v = get_or values_of n d in
      let m = those-means (under_key 3 key) k (get_in values_of n d here) in (
        v,
        m.0,
        at_key key 3 v m.1,
        sym (counted v.index)
            ∙ place-counts (by (λ (r : Record). r.index)) (by-strict (λ (r : Record). r.index)) values_of n d values-rise here,
      )
