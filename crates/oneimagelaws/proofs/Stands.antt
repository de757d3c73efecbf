-- Which records stand in a map's image: exactly those of its parts, each part at its place.
use mathlib.Core.Path.{◌≡◌, refl, ap, sym, ◌∙◌}
use mathlib.Core.Bool.{cond}
use mathlib.Core.Logic.{⊎_elim}
use mathlib.Core.List.Memᴰ
use mathlib.Core.List.{List, [], ◌∷◌}
use Prim.Native.Nat.{ℕ, zero, suc, ◌+◌, ◌<◌}
use native.Mathlib.Omega.{arith}
use native.Mathlib.Nat.{not-suc-le-zero, le_of_suc-le-suc}
use lib.Dec.{eqb}
use lib.ListN.{length, get_or}
use Rattle.listlaws.specs.Order.{◌∈◌}
use Rattle.clock.specs.declared.Dot.{Dot}
use Rattle.clock.specs.Dots.{dots_of}
use Rattle.register.specs.declared.Value.{Value}
use Rattle.entries.specs.declared.Entry.{Entry}
use Rattle.removals.specs.declared.Removal.{Removal}
use Rattle.entries.specs.Model.{dots_in, values_in}
use Rattle.removals.specs.Model.{under_of, listed_in}
use Rattle.records.specs.declared.Record.{Record}
use Rattle.clockimage.specs.Image.{dot_record, dot_records}
use Rattle.mapimage.specs.Sorted.{in_order}
use Rattle.mapimage.specs.MapImage.{flat_from, value_record, value_records, entry_records, waiting_dots, key_number, key_numbers, number_record}
use Rattle.mapimage.specs.MapImage.{records_in}
use Rattle.mapimage.proofs.Sorts.{order-has, order-from-list}

-- x stands at place j, counted from 0
pub data Place {A : Type 0} (x : A) : ℕ → List A → Type 0 where
  first : {y : A} {l : List A} → x ≡ y → Place x zero (y ∷ l)
  later : {y : A} {l : List A} {j : ℕ} → Place x j l → Place x (suc j) (y ∷ l)

module _ {A : Type 0} where
  pub place_in : {x : A} {j : ℕ} {l : List A} → Place x j l → x ∈ l
  place_in (first e) = Memᴰ.head e
  place_in (later p) = Memᴰ.tail (place_in p)

  pub place-below : {x : A} {j : ℕ} {l : List A} → Place x j l → j < length l
  place-below (first e) = omega arith
  place-below (later p) = let h = place-below p in omega arith

  -- what is read at a place stands there
  pub place-get : (l : List A) (j : ℕ) (d : A) → j < length l → Place (get_or l j d) j l
  place-get [] j d h = absurd (not-suc-le-zero h)
  place-get (x ∷ l) zero d h = first refl
  place-get (x ∷ l) (suc j) d h = later (place-get l j d (le_of_suc-le-suc h))

  -- one element to a place
  pub place-reads : {x : A} {j : ℕ} {l : List A} (d : A) → Place x j l → get_or l j d ≡ x
  place-reads d (first e) = sym e
  place-reads d (later p) = place-reads d p

  pub place-one : {x y : A} {j : ℕ} {l : List A} → Place x j l → Place y j l → x ≡ y
  place-one {x} p q = sym (place-reads x p) ∙ place-reads x q

  -- some place of an element
  pub in_place : {x : A} {l : List A} → x ∈ l → (j : ℕ) × Place x j l
  in_place (Memᴰ.head e) = (zero, first e)
  in_place (Memᴰ.tail i) = let (j, p) = in_place i in (suc j, later p)

-- what f gives at a place stands in the whole, and nothing else
module _ {A B : Type 0} (f : ℕ → A → List B) where
  pub flat-has-from : {x : A} (i : ℕ) {j : ℕ} {l : List A} → Place x j l → (z : B) → z ∈ f (i + j) x → z ∈ flat_from f i l
  unfolding flat_from
  flat-has-from i (first {l = l} e) z m = let same : i + 0 ≡ i = omega arith in Memᴰ.append_left (flat_from f (i + 1) l) (rw (e, same) at m)
  flat-has-from {x} i (later {y = y} {l = l} {j = j} p) z m =
      let same : i + suc j ≡ i + 1 + j = omega arith in Memᴰ.append_right (f i y) (flat-has-from (i + 1) p z (rw same at m))

  pub record Flat (i : ℕ) (l : List A) (z : B) : Type 0 where
    pub place : ℕ
    pub source : A
    pub stands : Place source place l
    pub given : z ∈ f (i + place) source

  pub flat-means-from : (i : ℕ) (l : List A) (z : B) → z ∈ flat_from f i l → Flat i l z
  unfolding flat_from
  flat-means-from i [] z m = absurd (Memᴰ.not-nil m)
  flat-means-from i (x ∷ l) z m =
      ⊎_elim (λ a. let same : i ≡ i + 0 = omega arith in record { place = zero; source = x; stands = first refl; given = rw (← same) a })
      (λ a. let r = flat-means-from (i + 1) l z a in
      let same : i + 1 + r.place ≡ i + suc r.place = omega arith in
      record { place = suc r.place; source = r.source; stands = later r.stands; given = rw same at r.given })
      (Memᴰ.append_cases (f i x) m)

  pub flat_has : {x : A} {j : ℕ} {l : List A} → Place x j l → (z : B) → z ∈ f j x → z ∈ flat_from f 0 l
  flat_has {x} {j} p z m = let same : 0 + j ≡ j = omega arith in flat-has-from 0 p z (rw same m)

  pub flat-means : {l : List A} (z : B) → z ∈ flat_from f 0 l → (j : ℕ) × (x : A) × Place x j l × (z ∈ f j x)
  flat-means {l} z m =
      let r = flat-means-from 0 l z m in
      let same : 0 + r.place ≡ r.place = omega arith in
      (r.place, r.source, r.stands, rw same at r.given)

module _ (c : List Dot) (l : List Entry) (w : List Removal) where
  -- the record of a part
  pub data Part (r : Record) : Type 0 where
    clock-dot : (d : Dot) → d ∈ c → r ≡ dot_record 1 0 0 d → Part r
    entry-dot : (e : Entry) → e ∈ l → (d : Dot) → d ∈ dots_in e → r ≡ dot_record 2 0 e.key d → Part r
    value : (e : Entry) → e ∈ l → (j : ℕ) (v : Value) → Place v j (values_in e) → r ≡ value_record e.key j v → Part r
    value-dot : (e : Entry) → e ∈ l → (j : ℕ) (v : Value) → Place v j (values_in e) → (d : Dot) → d ∈ dots_of v.clock → r ≡ dot_record 4 j e.key d
        → Part r
    waiting-dot : (j : ℕ) (q : Removal) → Place q j w → (d : Dot) → d ∈ under_of q → r ≡ dot_record 5 j 0 d → Part r
    waiting-key : (j : ℕ) (q : Removal) → Place q j w → (k : ℕ) → k ∈ listed_in q → r ≡ number_record (key_number j k) → Part r

  -- each stands in the image
  pub part-stands : {r : Record} → Part r → r ∈ records_in c l w
  part-stands (clock-dot d i e) = Memᴰ.append_left _ (Memᴰ.cast e (Memᴰ.map (dot_record 1 0 0) i))
  part-stands (entry-dot e i d k q) =
      Memᴰ.append_right (dot_records 1 0 0 c)
      (Memᴰ.append_left _ (flat_has (entry_records 2) (in_place i).1 _ (Memᴰ.cast q (Memᴰ.map (dot_record 2 0 e.key) k))))
  part-stands (value e i j v p q) =
      Memᴰ.append_right (dot_records 1 0 0 c)
      (Memᴰ.append_right (flat_from (entry_records 2) 0 l)
      (Memᴰ.append_left _ (flat_has (entry_records 3) (in_place i).1 _ (flat_has (value_records 3 e.key) p _ (Memᴰ.head q)))))
  part-stands (value-dot e i j v p d k q) =
      Memᴰ.append_right (dot_records 1 0 0 c)
      (Memᴰ.append_right (flat_from (entry_records 2) 0 l)
      (Memᴰ.append_right (flat_from (entry_records 3) 0 l)
      (Memᴰ.append_left _ (flat_has (entry_records 4) (in_place i).1 _
      (flat_has (value_records 4 e.key) p _ (Memᴰ.cast q (Memᴰ.map (dot_record 4 j e.key) k)))))))
  part-stands (waiting-dot j q p d k e) =
      Memᴰ.append_right (dot_records 1 0 0 c)
      (Memᴰ.append_right (flat_from (entry_records 2) 0 l)
      (Memᴰ.append_right (flat_from (entry_records 3) 0 l)
      (Memᴰ.append_right (flat_from (entry_records 4) 0 l)
      (Memᴰ.append_left _ (flat_has waiting_dots p _ (Memᴰ.cast e (Memᴰ.map (dot_record 5 j 0) k)))))))
  part-stands (waiting-key j q p k i e) =
      Memᴰ.append_right (dot_records 1 0 0 c)
      (Memᴰ.append_right (flat_from (entry_records 2) 0 l)
      (Memᴰ.append_right (flat_from (entry_records 3) 0 l)
      (Memᴰ.append_right (flat_from (entry_records 4) 0 l)
      (Memᴰ.append_right (flat_from waiting_dots 0 w)
      (Memᴰ.cast e (Memᴰ.map number_record (order-has (flat_from key_numbers 0 w) (key_number j k)
      (flat_has key_numbers p _ (Memᴰ.map (key_number j) i)))))))))

  -- nothing else does
  pub stands-part : (r : Record) → r ∈ records_in c l w → Part r
  stands-part r i =
      ⊎_elim (λ a. let y = Memᴰ.of_map (dot_record 1 0 0) c a in clock-dot y.0 y.1 (sym y.2))
      (λ i2. ⊎_elim
      (λ a. let (j, e, p, b) = flat-means (entry_records 2) r a in
      let y = Memᴰ.of_map (dot_record 2 0 e.key) (dots_in e) b in
      entry-dot e (place_in p) y.0 y.1 (sym y.2))
      (λ i3. ⊎_elim
      (λ a. let (j, e, p, b) = flat-means (entry_records 3) r a in
      let (k, v, q, s) = flat-means (value_records 3 e.key) r b in
      value e (place_in p) k v q (Memᴰ.eq_of_singleton s))
      (λ i4. ⊎_elim
      (λ a. let (j, e, p, b) = flat-means (entry_records 4) r a in
      let (k, v, q, s) = flat-means (value_records 4 e.key) r b in
      let y = Memᴰ.of_map (dot_record 4 k e.key) (dots_of v.clock) s in
      value-dot e (place_in p) k v q y.0 y.1 (sym y.2))
      (λ i5. ⊎_elim
      (λ a. let (j, q, p, b) = flat-means waiting_dots r a in
      let y = Memᴰ.of_map (dot_record 5 j 0) (under_of q) b in
      waiting-dot j q p y.0 y.1 (sym y.2))
      (λ a. let n = Memᴰ.of_map number_record (in_order (flat_from key_numbers 0 w)) a in
      let (j, q, p, b) = flat-means key_numbers n.0 (order-from-list (flat_from key_numbers 0 w) n.0 n.1) in
      let y = Memᴰ.of_map (key_number j) (listed_in q) b in
      waiting-key j q p y.0 y.1 (sym n.2 ∙ ap number_record (sym y.2)))
      (Memᴰ.append_cases (flat_from waiting_dots 0 w) i5))
      (Memᴰ.append_cases (flat_from (entry_records 4) 0 l) i4))
      (Memᴰ.append_cases (flat_from (entry_records 3) 0 l) i3))
      (Memᴰ.append_cases (flat_from (entry_records 2) 0 l) i2))
      (Memᴰ.append_cases (dot_records 1 0 0 c) i)

  -- a record of a kind is of that kind's parts
  abbrev pub PartOf : ℕ → Record → Type 0
  PartOf kind r =
      cond (eqb kind 1) ((d : Dot) × (d ∈ c) × (r ≡ dot_record 1 0 0 d))
      (cond (eqb kind 2) ((e : Entry) × (e ∈ l) × (d : Dot) × (d ∈ dots_in e) × (r ≡ dot_record 2 0 e.key d))
      (cond (eqb kind 3) ((e : Entry) × (e ∈ l) × (j : ℕ) × (v : Value) × Place v j (values_in e) × (r ≡ value_record e.key j v))
      (cond (eqb kind 4) ((e : Entry) × (e ∈ l) × (j : ℕ) × (v : Value) × Place v j (values_in e) × (d : Dot) × (d ∈ dots_of v.clock)
      × (r ≡ dot_record 4 j e.key d))
      (cond (eqb kind 5) ((j : ℕ) × (q : Removal) × Place q j w × (d : Dot) × (d ∈ under_of q) × (r ≡ dot_record 5 j 0 d))
      ((j : ℕ) × (q : Removal) × Place q j w × (k : ℕ) × (k ∈ listed_in q) × (r ≡ number_record (key_number j k)))))))

  pub part_of : (kind : ℕ) (r : Record) → r ∈ records_in c l w → r.kind ≡ kind → PartOf kind r
  part_of kind r i k = rw (← k) (go (stands-part r i))
    where
      go : Part r → PartOf r.kind r
      go (clock-dot d i e) = rw e (d, i, refl)
      go (entry-dot e i d k q) = rw q (e, i, d, k, refl)
      go (value e i j v p q) = rw q (e, i, j, v, p, refl)
      go (value-dot e i j v p d k q) = rw q (e, i, j, v, p, d, k, refl)
      go (waiting-dot j q p d k e) = rw e (j, q, p, d, k, refl)
      go (waiting-key j q p k i e) = rw e (j, q, p, k, i, refl)
