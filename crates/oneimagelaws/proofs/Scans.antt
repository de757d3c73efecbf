-- The records of a map's image are well formed and within the limits.
use mathlib.Core.Path.{◌≡◌, ap, sym, ◌∙◌}
use mathlib.Core.Bool.{true}
use mathlib.Core.Logic.{⊎_elim}
use mathlib.Core.List.Memᴰ
use mathlib.Core.List.{List, [], ◌∷◌, map}
use Prim.Native.Nat.{ℕ, zero, suc, ◌≤◌, ◌<◌}
use native.Mathlib.Omega.{arith}
use native.Mathlib.Nat.{not-suc-le-zero, le_of_suc-le-suc, eq-or-lt_of_le}
use lib.Dec.{eqb}
use lib.ListN.{length, length-map}
use borrow.Author.Tests.{eqb-true}
use Rattle.listlaws.specs.Order.{◌∈◌}
use Rattle.clock.specs.declared.Dot.{Dot}
use Rattle.clock.specs.Dots.{dots_of}
use Rattle.register.specs.declared.Value.{Value}
use Rattle.entries.specs.declared.Entry.{Entry}
use Rattle.removals.specs.declared.Removal.{Removal}
use Rattle.entries.specs.Model.{dots_in, values_in}
use Rattle.removals.specs.Model.{under_of, listed_in}
use Rattle.map.specs.declared.Map.{Map}
use Rattle.map.specs.Model.{seen_by, entries_in, waiting_in}
use Rattle.map.specs.Valid.{Within}
use Rattle.map.proofs.Accepts.{Fits, fits-means}
use Rattle.records.specs.declared.Record.{Record}
use Rattle.scan.specs.Limits.{outer, middle, inner, Limits, today, same_kind, same_outer, same_middle}
use Rattle.scan.specs.Numbers.{scan_number}
use Rattle.scan.proofs.Eachs.{both_left, both_right}
use Rattle.scan.proofs.Builds.{AmongBy, scan-of}
use Rattle.clockimage.specs.Image.{dot_record}
use Rattle.opimage.specs.OpImage.{key_record}
use Rattle.mapimage.specs.MapImage.{value_record, map_records}
use Rattle.maprecords.specs.Reading.{numbers_below}
use Rattle.maprecords.proofs.Keys.{length-below}
use Rattle.oneimagelaws.proofs.Written.{records-ok}
use Rattle.oneimagelaws.proofs.Rising.{records-ascend}
use Rattle.oneimagelaws.proofs.Stands.{Place, place_in, place-below, place-one, Part, clock-dot, entry-dot, value, value-dot, waiting-dot}
use Rattle.oneimagelaws.proofs.Stands.{waiting-key, stands-part}
use Rattle.oneimagelaws.proofs.Reread.{key-record, of-kind, of-key, same-entry, index-low}

pub below-has : (n i : ℕ) → i < n → i ∈ numbers_below n
unfolding numbers_below
below-has zero i h = absurd (not-suc-le-zero h)
below-has (suc n) i h =
    ⊎_elim (λ (e : i ≡ n). Memᴰ.append_right (numbers_below n) (Memᴰ.head e)) (λ b. Memᴰ.append_left (n ∷ []) (below-has n i b))
    (eq-or-lt_of_le (le_of_suc-le-suc h))

-- what records of one group share
module _ (r x : Record) where
  by_kind : same_kind r x ≡ true → x.kind ≡ r.kind
  by_kind t = eqb-true x.kind r.kind t

  outer-kind : same_outer r x ≡ true → same_kind r x ≡ true
  outer-kind t = both_left (same_kind r x) (eqb (outer x) (outer r)) t

  by-outer : same_outer r x ≡ true → outer x ≡ outer r
  by-outer t = eqb-true (outer x) (outer r) (both_right (same_kind r x) (eqb (outer x) (outer r)) t)

  middle-outer : same_middle r x ≡ true → same_outer r x ≡ true
  middle-outer t = both_left (same_outer r x) (eqb (middle x) (middle r)) t

  by-middle : same_middle r x ≡ true → middle x ≡ middle r
  by-middle t = eqb-true (middle x) (middle r) (both_right (same_outer r x) (eqb (middle x) (middle r)) t)

-- the actors of a clock
abbrev actors : List Dot → List ℕ
actors l = map (λ d. d.actor) l

few-actors : (l : List Dot) {n : ℕ} → length l ≤ n → length (actors l) ≤ n
few-actors l p = rw (length-map l (λ (d : Dot). d.actor)) p

few-below : (k : ℕ) {n : ℕ} → k ≤ n → length (numbers_below k) ≤ n
few-below k p = rw (length-below k) p

-- a map with so many entries and waiting removals as limits allow
module _ {m : Map} (h : Within m) (t : Limits) (entries : length (entries_in m) ≤ t.entries) (waiting : length (waiting_in m) ≤ t.waiting) where
  fits : Fits m
  fits = fits-means m h.limits

  abbrev keys : List ℕ
  keys = map (λ e. e.key) (entries_in m)

  keys-few : length keys ≤ t.entries
  keys-few = rw (length-map (entries_in m) (λ (e : Entry). e.key)) entries

  clock-among : (d : Dot) → AmongBy t (map_records m) (dot_record 1 0 0 d)
  clock-among d =
      let r = dot_record 1 0 0 d in
      record {
        outers = 0 ∷ [];
        middles = 0 ∷ [];
        inners = actors (seen_by m);
        in-outers = λ x i t. let (c, j, q) = of-kind h 1 x i (by_kind r x t) in Memᴰ.head (ap outer q);
        in-middles = λ x i t. let (c, j, q) = of-kind h 1 x i (by_kind r x (outer-kind r x t)) in Memᴰ.head (ap middle q);
        in-inners = λ x i t. let (c, j, q) = of-kind h 1 x i (by_kind r x (outer-kind r x (middle-outer r x t))) in
            Memᴰ.cast (ap inner q) (Memᴰ.map (λ (d : Dot). d.actor) j);
        few-outers = omega arith;
        few-middles = omega arith;
        few-inners = few-actors (seen_by m) fits.clock;
      }

  -- records of an entry
  module _ {e : Entry} (b : e ∈ entries_in m) where
    entry-among : (d : Dot) → AmongBy t (map_records m) (dot_record 2 0 e.key d)
    entry-among d =
        let r = dot_record 2 0 e.key d in
        record {
          outers = keys;
          middles = 0 ∷ [];
          inners = actors (dots_in e);
          in-outers = λ x i t. let (u, a, c, j, q) = of-kind h 2 x i (by_kind r x t) in Memᴰ.cast (ap outer q) (Memᴰ.map (λ (e : Entry). e.key) a);
          in-middles = λ x i t. let (u, a, c, j, q) = of-kind h 2 x i (by_kind r x (outer-kind r x t)) in Memᴰ.head (ap middle q);
          in-inners = λ x i t. let o = middle-outer r x t in
              let (u, a, c, j, q) = of-kind h 2 x i (by_kind r x (outer-kind r x o)) in
              let s = same-entry h b a (ap outer (sym q) ∙ by-outer r x o) in
              Memᴰ.cast (ap inner q) (Memᴰ.map (λ (d : Dot). d.actor) (rw s at j));
          few-outers = keys-few;
          few-middles = omega arith;
          few-inners = few-actors (dots_in e) (fits.entries e b).dots;
        }

    value-among : (j : ℕ) (v : Value) → AmongBy t (map_records m) (value_record e.key j v)
    value-among n v =
        let r = value_record e.key n v in
        record {
          outers = keys;
          middles = numbers_below (length (values_in e));
          inners = 0 ∷ [];
          in-outers = λ x i t. let (u, a, j, w, p, q) = of-kind h 3 x i (by_kind r x t) in
              Memᴰ.cast (ap outer q) (Memᴰ.map (λ (e : Entry). e.key) a);
          in-middles = λ x i t. let (u, a, j, w, p, q) = of-kind h 3 x i (by_kind r x (outer-kind r x t)) in
              let s = same-entry h b a (ap outer (sym q) ∙ by-outer r x t) in
              Memᴰ.cast (ap middle q) (below-has (length (values_in e)) j (place-below (rw s at p)));
          in-inners = λ x i t. let (u, a, j, w, p, q) = of-kind h 3 x i (by_kind r x (outer-kind r x (middle-outer r x t))) in
              Memᴰ.head (ap inner q);
          few-outers = keys-few;
          few-middles = few-below (length (values_in e)) (fits.entries e b).count;
          few-inners = omega arith;
        }

    value-dot-among : (j : ℕ) (v : Value) → Place v j (values_in e) → (d : Dot) → AmongBy t (map_records m) (dot_record 4 j e.key d)
    value-dot-among n v z d =
        let r = dot_record 4 n e.key d in
        record {
          outers = keys;
          middles = numbers_below (length (values_in e));
          inners = actors (dots_of v.clock);
          in-outers = λ x i t. let (u, a, j, w, p, c, k, q) = of-kind h 4 x i (by_kind r x t) in
              Memᴰ.cast (ap outer q) (Memᴰ.map (λ (e : Entry). e.key) a);
          in-middles = λ x i t. let (u, a, j, w, p, c, k, q) = of-kind h 4 x i (by_kind r x (outer-kind r x t)) in
              let s = same-entry h b a (ap outer (sym q) ∙ by-outer r x t) in
              Memᴰ.cast (ap middle q) (below-has (length (values_in e)) j (place-below (rw s at p)));
          in-inners = λ x i t. let o = middle-outer r x t in
              let (u, a, j, w, p, c, k, q) = of-kind h 4 x i (by_kind r x (outer-kind r x o)) in
              let s = same-entry h b a (ap outer (sym q) ∙ by-outer r x o) in
              let here : j ≡ n = ap middle (sym q) ∙ by-middle r x t in
              let one : w ≡ v = place-one (rw (s, here) at p) z in
              Memᴰ.cast (ap inner q) (Memᴰ.map (λ (d : Dot). d.actor) (rw one at k));
          few-outers = keys-few;
          few-middles = few-below (length (values_in e)) (fits.entries e b).count;
          few-inners = few-actors (dots_of v.clock) ((fits.entries e b).each v (place_in z));
        }

  -- records of a waiting removal: its dots by index, and its keys under the index
  module _ {w : Removal} {n : ℕ} (z : Place w n (waiting_in m)) where
    waiting_among : (d : Dot) → AmongBy t (map_records m) (dot_record 5 n 0 d)
    waiting_among d =
        let r = dot_record 5 n 0 d in
        record {
          outers = 0 ∷ [];
          middles = numbers_below (length (waiting_in m));
          inners = actors (under_of w);
          in-outers = λ x i t. let (j, u, p, c, k, q) = of-kind h 5 x i (by_kind r x t) in Memᴰ.head (ap outer q);
          in-middles = λ x i t. let (j, u, p, c, k, q) = of-kind h 5 x i (by_kind r x (outer-kind r x t)) in
              Memᴰ.cast (ap middle q) (below-has (length (waiting_in m)) j (place-below p));
          in-inners = λ x i t. let (j, u, p, c, k, q) = of-kind h 5 x i (by_kind r x (outer-kind r x (middle-outer r x t))) in
              let here : j ≡ n = ap middle (sym q) ∙ by-middle r x t in
              let one : u ≡ w = place-one (rw here at p) z in
              Memᴰ.cast (ap inner q) (Memᴰ.map (λ (d : Dot). d.actor) (rw one at k));
          few-outers = omega arith;
          few-middles = few-below (length (waiting_in m)) waiting;
          few-inners = few-actors (under_of w) (fits.waiting w (place_in z)).dots;
        }

    key-among : (y : ℕ) → AmongBy t (map_records m) (key_record 6 n y)
    key-among y =
        let r = key_record 6 n y in
        record {
          outers = numbers_below (length (waiting_in m));
          middles = listed_in w;
          inners = 0 ∷ [];
          in-outers = λ x i t. let (j, u, p, k, b, q) = of-key h x i (by_kind r x t) in
              Memᴰ.cast (ap outer q) (below-has (length (waiting_in m)) j (place-below p));
          in-middles = λ x i t. let (j, u, p, k, b, q) = of-key h x i (by_kind r x (outer-kind r x t)) in
              let here : j ≡ n = ap outer (sym q) ∙ by-outer r x t in
              let one : u ≡ w = place-one (rw here at p) z in
              Memᴰ.cast (ap middle q) (rw one at b);
          in-inners = λ x i t. let (j, u, p, k, b, q) = of-key h x i (by_kind r x (outer-kind r x (middle-outer r x t))) in
              Memᴰ.head (ap inner q);
          few-outers = few-below (length (waiting_in m)) waiting;
          few-middles = (fits.waiting w (place_in z)).keys;
          few-inners = omega arith;
        }

  pub records-among : (r : Record) → r ∈ map_records m → AmongBy t (map_records m) r
  records-among r i = go (stands-part (seen_by m) (entries_in m) (waiting_in m) r i)
    where
      go : {r : Record} → Part (seen_by m) (entries_in m) (waiting_in m) r → AmongBy t (map_records m) r
      go (clock-dot d i e) = rw e (clock-among d)
      go (entry-dot e i d k q) = rw q (entry-among i d)
      go (value e i j v p q) = rw q (value-among i j v)
      go (value-dot e i j v p d k q) = rw q (value-dot-among i j v p d)
      go (waiting-dot j q p d k e) = rw e (waiting_among p d)
      go (waiting-key j q p k i e) = rw (e ∙ key-record j k (index-low h p)) (key-among p k)

pub records-scan : {m : Map} → Within m → scan_number 1 6 (map_records m) ≡ 0
records-scan {m} h = let f = fits-means m h.limits in scan-of 1 6 (map_records m) (records-ascend h) (records-ok h)
    (records-among h today f.count f.number)
