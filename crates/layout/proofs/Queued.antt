-- The waiting removals of an image: clocks of kind 5 and keys of kind 6 that the walks accept are the records of valid removals, and those
-- of valid removals are accepted.
use mathlib.Core.Path.{◌≡◌, refl, ap, ap₂, sym, ◌∙◌}
use mathlib.Core.Bool.{true, false}
use mathlib.Core.List.Memᴰ
use mathlib.Core.List.{List, [], ◌∷◌, ◌++◌, map}
use Prim.Native.Nat.{ℕ, ◌+◌, ◌≤◌, ◌<◌}
use native.Mathlib.Omega.{arith}
use lib.Dec.{ltb}
use lib.ListN.{length, get_or, replicate, length-map, length-replicate, get_or-replicate}
use borrow.Author.Tests.{ltb-true, ltb-false, lt-ltb, eqb-true, eq-eqb}
use Rattle.scan.proofs.Eachs.{decide}
use Rattle.listlaws.specs.Order.{◌∈◌, Ascending, nil, next, by}
use Rattle.listlaws.specs.Sift.{those}
use Rattle.listlaws.proofs.Orders.{tail-ascends, head-before, by-strict, same-members, no_longer}
use Rattle.listlaws.proofs.Those.{those-means, those-holds, those-ascends}
use Rattle.clock.specs.declared.Dot.{Dot}
use Rattle.clock.specs.Dots.{is_empty}
use Rattle.removals.specs.declared.Removal.{Removal}
use Rattle.limits.specs.Limits.{waiting_limit, key_limit}
use Rattle.removals.specs.Model.{under_of, listed_in, removal_as, no_removal}
use Rattle.removals.specs.Waits.{clock_before, removal_before}
use Rattle.removals.specs.Valid.{ValidWaiting}
use Rattle.removals.proofs.Lengths.{RemovalFits}
use Rattle.records.specs.declared.Record.{Record}
use Rattle.records.proofs.RoundTrips.{by-fields}
use Rattle.mapimage.specs.Sorted.{in_order}
use Rattle.mapimage.specs.MapImage.{flat_from, waiting_dots, key_number, key_numbers, number_record, waiting_keys}
use Rattle.mapimage.proofs.Sorts.{order-ascends, order-has, order-from-list}
use Rattle.maprecords.specs.Reading.{places_from}
use Rattle.acceptancelaws.proofs.Waited.{under-as, listed-as, removal-as}
use Rattle.oneimagelaws.proofs.Stands.{Place, place_in, place-below, place-get, place-one, flat_has, flat-means}
use Rattle.oneimagelaws.proofs.Made.{place_of, of-place}
use Rattle.oneimagelaws.proofs.Places.{places-means}
use Rattle.walks.specs.Walk.{keys_good}
use Rattle.layout.proofs.Waiting.{Clocked, fives}
use Rattle.walks.proofs.Keys.{KeyFields, rank, under_one, Listed, keys-hold}

-- the keys under an index
abbrev pub keys_under : ℕ → List Record → List ℕ
keys_under j l = map (λ r. r.key) (those (under_one j) l)

-- the removals of clocks and keys
abbrev pub removal_for : List Record → ℕ → List Dot → Removal
removal_for l j c = removal_as c (keys_under j l)

abbrev pub removals_for : List (List Dot) → List Record → List Removal
removals_for cs l = places_from (removal_for l) 0 cs

-- keys of one index ascend
keys-rise : (j : ℕ) (l : List Record) → Ascending (by rank) l → Ascending (by (λ k. k)) (keys_under j l)
keys-rise j l a = go (those (under_one j) l) (those-ascends (under_one j) a) (λ r i. eqb-true r.index j (those-means (under_one j) l i).1)
  where
    go : (m : List Record) → Ascending (by rank) m → ((r : Record) → r ∈ m → r.index ≡ j) → Ascending (by (λ k. k)) (map (λ r. r.key) m)
    go [] b f = nil
    go (r ∷ m) b f =
        next (λ k i. let (x, n, e) = Memᴰ.of_map (λ (r : Record). r.key) m i in
        let p = f r (Memᴰ.head refl) in
        let q = f x (Memᴰ.tail n) in
        let o = ltb-true (rank r) (rank x) (head-before b x n) in
        lt-ltb r.key k (omega arith)) (go m (tail-ascends b) (λ x i. f x (Memᴰ.tail i)))

-- the dots of the removals are the clocks
dots-same : (l : List Record) (i : ℕ) (cs : List (List Dot)) → flat_from waiting_dots i (places_from (removal_for l) i cs) ≡ flat_from fives i cs
unfolding flat_from places_from
dots-same l i [] = refl
dots-same l i (c ∷ cs) = rw (under-as c (keys_under i l)) (ap (λ y. fives i c ++ y) (dots-same l (i + 1) cs))

removals-rise : (l : List Record) (i : ℕ) (cs : List (List Dot)) → Ascending clock_before cs
    → Ascending removal_before (places_from (removal_for l) i cs)
unfolding places_from
removals-rise l i [] a = nil
removals-rise l i (c ∷ cs) a =
    next {x = removal_for l i c} (λ q m. let r = places-means (removal_for l) (i + 1) cs q m in
    rw (r.given, under-as c (keys_under i l), under-as r.source (keys_under (i + 1 + r.place) l))
    (head-before a r.source (place_in r.stands)))
    (removals-rise l (i + 1) cs (tail-ascends a))

-- a record that passes is that of its number
number-back : (n : ℕ) (r : Record) → n ≤ waiting_limit → KeyFields n r → number_record (rank r) ≡ r
number-back n r h f = let k = f.low in by-fields (sym f.kind-is) (omega arith) (sym f.actor-is) (omega arith) (sym f.number_is)

module _ (cs : List (List Dot)) (l : List Record) (small : length cs ≤ waiting_limit) (h : Listed (length cs) (replicate waiting_limit 0) 0 l) where
  abbrev ws : List Removal
  ws = removals_for cs l

  number-from : (x j : ℕ) (q : Removal) → Place q j ws → x ∈ key_numbers j q → x ∈ map rank l
  number-from x j q p i =
      let (c, s, e) = of-place (removal_for l) [] p in
      let (k, a, b) = Memᴰ.of_map (key_number j) (keys_under j l) (rw (e, listed-as c (keys_under j l)) at i) in
      let (r, n, y) = Memᴰ.of_map (λ (r : Record). r.key) (those (under_one j) l) a in
      let (o, t) = those-means (under_one j) l n in
      let z = eqb-true r.index j t in
      Memᴰ.cast (sym b ∙ ap₂ key_number (sym z) (sym y)) (Memᴰ.map rank o)

  numbers-from : (x : ℕ) → x ∈ flat_from key_numbers 0 ws → x ∈ map rank l
  numbers-from x m = let (j, q, p, i) = flat-means key_numbers x m in number-from x j q p i

  numbers-to : (x : ℕ) → x ∈ map rank l → x ∈ flat_from key_numbers 0 ws
  numbers-to x m =
      let (r, i, e) = Memᴰ.of_map rank l m in
      let j = r.index in
      let p = place-get cs j [] (h.each r i).low in
      let q = place_of (removal_for l) p in
      let c = get_or cs j [] in
      let a : r.key ∈ listed_in (removal_for l j c) = rw (listed-as c (keys_under j l))
      (Memᴰ.map (λ (r : Record). r.key) (those-holds (under_one j) i (eq-eqb j j refl))) in
      Memᴰ.cast (sym e) (flat_has key_numbers q (key_number j r.key) (Memᴰ.map (key_number j) a))

  ranks-rise : (m : List Record) → Ascending (by rank) m → Ascending (by (λ n. n)) (map rank m)
  ranks-rise [] a = nil
  ranks-rise (r ∷ m) a = next {x = rank r} (λ x i. let (y, j, e) = Memᴰ.of_map rank m i in rw (← e) (head-before a y j))
      (ranks-rise m (tail-ascends a))

  pub keys-back : waiting_keys ws ≡ l
  keys-back =
      ap (map number_record) (same-members (by-strict (λ n. n)) (in_order (flat_from key_numbers 0 ws)) (map rank l)
      (order-ascends (flat_from key_numbers 0 ws)) (ranks-rise l h.rising)
      (λ x i. numbers-from x (order-from-list (flat_from key_numbers 0 ws) x i)) (λ x i. order-has (flat_from key_numbers 0 ws) x (numbers-to x i)))
      ∙ back l h.each
    where
      back : (m : List Record) → ((r : Record) → r ∈ m → KeyFields (length cs) r) → map number_record (map rank m) ≡ m
      back [] f = refl
      back (r ∷ m) f = ap₂ ◌∷◌ (number-back (length cs) r small (f r (Memᴰ.head refl))) (back m (λ x i. f x (Memᴰ.tail i)))

  pub dots-back : flat_from waiting_dots 0 ws ≡ flat_from fives 0 cs
  dots-back = dots-same l 0 cs

  module _ (rising : Ascending clock_before cs) (each : (ds : List Dot) → ds ∈ cs → Clocked ds) where
    of-removal : (P : Removal → Type 0) → ((j : ℕ) (c : List Dot) → j < length cs → c ∈ cs → P (removal_for l j c)) → (q : Removal) → q ∈ ws → P q
    of-removal P f q m = let r = places-means (removal_for l) 0 cs q m in
        rw r.given (f (0 + r.place) r.source (let k = place-below r.stands in omega arith) (place_in r.stands))

    pub removals-valid : ValidWaiting ws
    removals-valid = record {
      rising = removals-rise l 0 cs rising;
      each = of-removal _ (λ j c p i. removal-as c (keys_under j l) (each c i).lawful (keys-rise j l h.rising));
      some = of-removal (λ q. is_empty (under_of q) ≡ false) (λ j c p i. rw (under-as c (keys_under j l)) (each c i).some);
    }

    pub removals-fit : (q : Removal) → q ∈ ws → RemovalFits q
    removals-fit = of-removal RemovalFits (λ j c p i. record {
      dots = rw (under-as c (keys_under j l)) (each c i).few;
      keys = rw (listed-as c (keys_under j l)) (few j p);
    })
      where
        few : (j : ℕ) → j < length cs → length (keys_under j l) ≤ key_limit
        few j p =
            let z = get_or-replicate {A = ℕ} waiting_limit j 0 0 (omega arith) in
            omega (
              arith,
              length-map (those (under_one j) l) (λ (r : Record). r.key),
              h.few j (omega (arith, length-replicate {A = ℕ} waiting_limit 0)) (omega (arith, z)),
            )

-- the keys of valid removals are accepted
module _ (w : List Removal) (small : length w ≤ waiting_limit) (v : ValidWaiting w) (fits : (q : Removal) → q ∈ w → RemovalFits q) where
  abbrev numbers : List ℕ
  numbers = in_order (flat_from key_numbers 0 w)

  -- where a record comes from
  record Source (r : Record) : Type 0 where
    place : ℕ
    removal : Removal
    stands : Place removal place w
    listed : r.key ∈ listed_in removal
    index_is : r.index ≡ place
    fields : KeyFields (length w) r

  source : (r : Record) → r ∈ waiting_keys w → Source r
  source r i =
      let (x, a, b) = Memᴰ.of_map number_record numbers i in
      let (j, q, p, c) = flat-means key_numbers x (order-from-list (flat_from key_numbers 0 w) x a) in
      let (k, d, e) = Memᴰ.of_map (key_number j) (listed_in q) c in
      go r x j k q p d e b
    where
      go : (r : Record) (x j k : ℕ) (q : Removal) → Place q j w → k ∈ listed_in q → key_number j k ≡ x → number_record x ≡ r → Source r
      go r x j k q p d e b =
          let low = place-below p in
          let key : k ≡ r.key = (let z = ap (λ (y : Record). y.key) b in omega arith) in
          let index : r.index ≡ j = (let z = ap (λ (y : Record). y.index) b in omega arith) in
          record {
            place = j;
            removal = q;
            stands = p;
            listed = Memᴰ.cast (sym key) d;
            index_is = index;
            fields = record {
              kind-is = sym (ap (λ (y : Record). y.kind) b);
              actor-is = sym (ap (λ (y : Record). y.actor) b);
              number_is = sym (ap (λ (y : Record). y.number) b);
              low = omega arith;
            };
          }

  rank-number : (x : ℕ) → rank (number_record x) ≡ x
  rank-number x = omega arith

  ranked : (m : List ℕ) → Ascending (by (λ n. n)) m → Ascending (by rank) (map number_record m)
  ranked [] a = nil
  ranked (x ∷ m) a =
      next {x = number_record x} (λ r i. let (y, j, e) = Memᴰ.of_map number_record m i in
      rw (← e) (lt-ltb (rank (number_record x)) (rank (number_record y))
      (omega (arith, rank-number x, rank-number y, ltb-true x y (head-before a y j)))))
      (ranked m (tail-ascends a))

  rise : Ascending (by rank) (waiting_keys w)
  rise = ranked numbers (order-ascends (flat_from key_numbers 0 w))

  -- so few under each index
  few : (j : ℕ) → length (keys_under j (waiting_keys w)) ≤ key_limit
  few j =
      decide (ltb j (length w))
      (λ t. let p = place-get w j no_removal (ltb-true j (length w) t) in
      let q = get_or w j no_removal in
      omega (
        arith,
        (fits q (place_in p)).keys,
        no_longer (by-strict (λ n. n)) (listed_in q) (keys_under j (waiting_keys w))
            (keys-rise j (waiting_keys w) rise) (v.each q (place_in p)).keys (λ k i. among k i p),
      ))
      (λ f. omega (
        arith,
        no_longer (by-strict (λ n. n)) [] (keys_under j (waiting_keys w)) (keys-rise j (waiting_keys w) rise) nil
            (λ k i. absurd (outside k i (ltb-false j (length w) f))),
      ))
    where
      of : (k : ℕ) → k ∈ keys_under j (waiting_keys w) → (r : Record) × Source r × (r.key ≡ k) × (r.index ≡ j)
      of k i =
          let (r, n, y) = Memᴰ.of_map (λ (r : Record). r.key) (those (under_one j) (waiting_keys w)) i in
          let (o, t) = those-means (under_one j) (waiting_keys w) n in
          (r, source r o, y, eqb-true r.index j t)

      among : (k : ℕ) → k ∈ keys_under j (waiting_keys w) → {q : Removal} → Place q j w → k ∈ listed_in q
      among k i {q} p =
          let (r, s, y, z) = of k i in
          let same : s.removal ≡ q = place-one (rw (sym s.index_is ∙ z) at s.stands) p in
          Memᴰ.cast (sym y) (rw same at s.listed)

      outside : (k : ℕ) → k ∈ keys_under j (waiting_keys w) → length w ≤ j → ⊥
      outside k i h = let (r, s, y, z) = of k i in let a = s.fields.low in omega arith

  pub keys-accepted : keys_good (length w) (replicate waiting_limit 0) 0 (waiting_keys w) ≡ true
  keys-accepted =
      keys-hold (length w) (replicate waiting_limit 0) 0 (waiting_keys w) (λ r i. (source r i).fields) rise (λ r i. omega arith)
      (λ j h. let z = get_or-replicate {A = ℕ} waiting_limit j 0 0 (omega (arith, length-replicate {A = ℕ} waiting_limit 0)) in
      omega (arith, z, few j, length-map (those (under_one j) (waiting_keys w)) (λ (r : Record). r.key)))
      (omega (arith, length-replicate {A = ℕ} waiting_limit 0))
