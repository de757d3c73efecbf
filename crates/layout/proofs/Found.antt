-- The places where kinds begin cut a map's image into its sections; what is recognised there, and what is not.
use mathlib.Core.Path.{◌≡◌, refl, ap, ap₂, sym, ◌∙◌}
use mathlib.Core.Logic.{⊎_elim}
use mathlib.Core.List.Memᴰ
use mathlib.Core.List.{List, ◌++◌}
use Prim.Native.Nat.{ℕ, zero, suc, ◌+◌, ◌*◌, ◌-◌, ◌/◌, ◌≤◌, ◌<◌}
use native.Mathlib.Omega.{arith}
use lib.ListN.{length, take, drop, length-append, take-append-drop}
use lib.Seq.{take_at, drop_at}
use Rattle.listlaws.specs.Order.{◌∈◌}
use Rattle.clock.specs.Dots.{dots_of}
use Rattle.entries.specs.Model.{dots_in, values_in}
use Rattle.removals.specs.Model.{under_of}
use Rattle.map.specs.declared.Map.{Map}
use Rattle.map.specs.Model.{seen_by, entries_in, waiting_in}
use Rattle.records.specs.declared.Record.{Record}
use Rattle.records.specs.Records.{record_from, records_of}
use Rattle.clockimage.specs.Image.{dot_record, dot_records}
use Rattle.mapimage.specs.Sorted.{in_order}
use Rattle.mapimage.specs.MapImage.{flat_from, value_records, entry_records, waiting_dots, key_numbers, number_record, waiting_keys, map_records}
use Rattle.oneimagelaws.proofs.Stands.{flat-means-from}
use Rattle.walks.specs.declared.Layout.{Layout}
use Rattle.walks.specs.Walk.{field_of, Splits, part}
use Rattle.layout.specs.Whole.{Sectioned, Parted}
use Rattle.walks.proofs.Loops.{part-on, part-take, part-drop, length_part}

module _ (s : List ℕ) where
  -- a part in two
  pub part-append : (i k j : ℕ) → i ≤ k → k ≤ j → part s i j ≡ part s i k ++ part s k j
  part-append i k j a b =
      let e : i + (k - i) ≡ k = omega arith in
      sym (take-append-drop (k - i) (part s i j)) ∙ ap₂ ◌++◌ (part-take s (k - i) i j (omega arith) ∙ ap (part s i) e)
      (part-drop s (k - i) i j (omega arith) ∙ ap (λ x. part s x j) e)

  -- each record between stands in a part
  part-has : (n i j : ℕ) → i + n < j → record_from s ((i + n) * 16) ∈ part s i j
  part-has zero i j h = let e : i + 0 ≡ i = omega arith in rw (e, part-on s i j (omega arith)) (Memᴰ.head refl)
  part-has (suc n) i j h = let e : i + suc n ≡ i + 1 + n = omega arith in
      rw (e, part-on s i j (omega arith)) (Memᴰ.tail (part-has n (i + 1) j (omega arith)))

  each_at : (i p j : ℕ) (P : Record → Type 0) → i ≤ p → p < j → ((r : Record) → r ∈ part s i j → P r) → P (record_from s (p * 16))
  each_at i p j P a b f = let e : i + (p - i) ≡ p = omega arith in f (record_from s (p * 16)) (rw e at (part-has (p - i) i j (omega arith)))

  -- a part that is x and then y is cut between them
  pub record Cut (i j : ℕ) (x y : List Record) (at : ℕ) : Type 0 where
    pub first : part s i at ≡ x
    pub second : part s at j ≡ y

  -- x has lower fields than the bound, and y has not
  pub cut_at : (field bound i j : ℕ) (x y : List Record) (at : ℕ) → i ≤ j → part s i j ≡ x ++ y → ((r : Record) → r ∈ x → field_of field r < bound)
      → ((r : Record) → r ∈ y → bound ≤ field_of field r)
      → ((at' : ℕ) → Splits s field bound i j at' → at ≡ at') → Cut i j x y at
  cut_at field bound i j x y at h e f g found =
      let n : i + length x ≤ j = omega (arith, length_part s i j, ap length e, length-append x y) in
      let a : part s i (i + length x) ≡ x = sym (part-take s (length x) i j n) ∙ ap (take (length x)) e ∙ take_at x y (length x) refl in
      let b : part s (i + length x) j ≡ y = sym (part-drop s (length x) i j n) ∙ ap (drop (length x)) e ∙ drop_at x y (length x) refl in
      let q = found (i + length x) (record {
        above = omega arith;
        within = n;
        lower = λ p u v. each_at i p (i + length x) (λ z. field_of field z < bound) u v (rw a f);
        higher = λ p u v. each_at (i + length x) p j (λ z. bound ≤ field_of field z) u v (rw b g);
      }) in
      record { first = rw q a; second = rw q b }

-- the kinds of the sections
clock-kind : (m : Map) (r : Record) → r ∈ dot_records 1 0 0 (seen_by m) → r.kind ≡ 1
clock-kind m r i = let (d, j, e) = Memᴰ.of_map (dot_record 1 0 0) (seen_by m) i in ap (λ (x : Record). x.kind) (sym e)

entry-kind : (m : Map) (r : Record) → r ∈ flat_from (entry_records 2) 0 (entries_in m) → r.kind ≡ 2
entry-kind m r i =
    let w = flat-means-from (entry_records 2) 0 (entries_in m) r i in
    let (d, j, e) = Memᴰ.of_map (dot_record 2 0 w.source.key) (dots_in w.source) w.given in ap (λ (x : Record). x.kind) (sym e)

value-kind : (m : Map) (r : Record) → r ∈ flat_from (entry_records 3) 0 (entries_in m) → r.kind ≡ 3
value-kind m r i =
    let w = flat-means-from (entry_records 3) 0 (entries_in m) r i in
    let v = flat-means-from (value_records 3 w.source.key) 0 (values_in w.source) r w.given in
    ap (λ (x : Record). x.kind) (Memᴰ.eq_of_singleton v.given)

dot-kind : (m : Map) (r : Record) → r ∈ flat_from (entry_records 4) 0 (entries_in m) → r.kind ≡ 4
dot-kind m r i =
    let w = flat-means-from (entry_records 4) 0 (entries_in m) r i in
    let v = flat-means-from (value_records 4 w.source.key) 0 (values_in w.source) r w.given in
    let (d, j, e) = Memᴰ.of_map (dot_record 4 (0 + v.place) w.source.key) (dots_of v.source.clock) v.given in
    ap (λ (x : Record). x.kind) (sym e)

waiting-kind : (m : Map) (r : Record) → r ∈ flat_from waiting_dots 0 (waiting_in m) → r.kind ≡ 5
waiting-kind m r i =
    let w = flat-means-from waiting_dots 0 (waiting_in m) r i in
    let (d, j, e) = Memᴰ.of_map (dot_record 5 (0 + w.place) 0) (under_of w.source) w.given in ap (λ (x : Record). x.kind) (sym e)

key-kind : (m : Map) (r : Record) → r ∈ waiting_keys (waiting_in m) → r.kind ≡ 6
key-kind m r i = let (x, j, e) = Memᴰ.of_map number_record (in_order (flat_from key_numbers 0 (waiting_in m))) i in ap (λ (x : Record). x.kind)
    (sym e)

-- records of a kind and those of higher kinds
over : (n : ℕ) (x y : List Record) → ((r : Record) → r ∈ x → r.kind ≡ n) → ((r : Record) → r ∈ y → n + 1 ≤ r.kind) → (r : Record) → r ∈ (x ++ y)
    → n ≤ r.kind
over n x y f g r i = ⊎_elim (λ a. let k = f r a in omega arith) (λ b. let k = g r b in omega arith) (Memᴰ.append_cases x i)

-- all records from the first on
pub all-records : (s : List ℕ) (end : ℕ) → end ≡ length s / 16 → part s 0 end ≡ records_of s
all-records s end e = let n : end - 0 ≡ length s / 16 = omega arith in rw n

-- the places that were found cut the image of a map into its sections
pub sections-found : (s : List ℕ) (l : Layout) (m : Map) → Parted s l → map_records m ≡ records_of s
    → Sectioned m (part s 0 l.second) (part s l.second l.third) (part s l.third l.fourth) (part s l.fourth l.fifth)
    (part s l.fifth l.sixth) (part s l.sixth l.end)
sections-found s l m p e =
    let k5 : (r : Record) → r ∈ waiting_keys (waiting_in m) → 5 + 1 ≤ r.kind = λ r i. (let k = key-kind m r i in omega arith) in
    let k4 = over 5 (flat_from waiting_dots 0 (waiting_in m)) _ (waiting-kind m) k5 in
    let k3 = over 4 (flat_from (entry_records 4) 0 (entries_in m)) _ (dot-kind m) k4 in
    let k2 = over 3 (flat_from (entry_records 3) 0 (entries_in m)) _ (value-kind m) k3 in
    let k1 = over 2 (flat_from (entry_records 2) 0 (entries_in m)) _ (entry-kind m) k2 in
    let q = p.places in
    let q1 = q.second in
    let q2 = q.third in
    let q3 = q.fourth in
    let q4 = q.fifth in
    let q5 = q.sixth in
    let c1 = cut_at s 0 2 0 l.end (dot_records 1 0 0 (seen_by m)) _ l.second (omega arith) (all-records s l.end p.end ∙ sym e)
    (λ r i. (let k = clock-kind m r i in omega arith)) k1 p.second in
    let c2 = cut_at s 0 3 l.second l.end (flat_from (entry_records 2) 0 (entries_in m)) _ l.third (omega arith) c1.second
    (λ r i. (let k = entry-kind m r i in omega arith)) k2 p.third in
    let c3 = cut_at s 0 4 l.third l.end (flat_from (entry_records 3) 0 (entries_in m)) _ l.fourth (omega arith) c2.second
    (λ r i. (let k = value-kind m r i in omega arith)) k3 p.fourth in
    let c4 = cut_at s 0 5 l.fourth l.end (flat_from (entry_records 4) 0 (entries_in m)) _ l.fifth (omega arith) c3.second
    (λ r i. (let k = dot-kind m r i in omega arith)) k4 p.fifth in
    let c5 = cut_at s 0 6 l.fifth l.end (flat_from waiting_dots 0 (waiting_in m)) _ l.sixth (omega arith) c4.second
    (λ r i. (let k = waiting-kind m r i in omega arith)) k5 p.sixth in
    record {
      first = sym c1.first;
      second = sym c2.first;
      third = sym c3.first;
      fourth = sym c4.first;
      fifth = sym
          c5.first;
      sixth = sym c5.second;
    }
