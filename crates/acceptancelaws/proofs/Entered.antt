-- The entries of an accepted map's image are valid and within the limits.
use mathlib.Core.Path.{◌≡◌, refl, ap, sym, ◌∙◌}
use mathlib.Core.Bool.{Bool, true, false, not}
use mathlib.Core.Logic.{⊎_elim}
use mathlib.Core.List.Memᴰ
use mathlib.Core.List.{List, [], ◌∷◌, ◌++◌, map}
use Prim.Native.Nat.{ℕ, ◌+◌, ◌≤◌}
use native.Mathlib.Omega.{arith}
use lib.Dec.{eqb, ltb}
use lib.ListN.{length, length-map}
use borrow.Author.Tests.{eqb-true, eqb-false, ne_eqb, lt-ltb}
use Rattle.listlaws.specs.Order.{◌∈◌, Ascending, nil, next, by}
use Rattle.listlaws.specs.Fold.{fold}
use Rattle.listlaws.specs.First.{some}
use Rattle.listlaws.specs.Sift.{those}
use Rattle.listlaws.proofs.Pads.{length-snoc}
use Rattle.listlaws.proofs.Sides.{one-ascends, append-ascends}
use Rattle.listlaws.proofs.Somes.{some-false}
use Rattle.listlaws.proofs.Those.{those-holds}
use Rattle.clock.specs.declared.Dot.{Dot}
use Rattle.clock.specs.Dots.{dots_of, clock_of, is_empty, covers}
use Rattle.clock.specs.Lawful.{Lawful}
use Rattle.clock.proofs.Packs.{dots-of}
use Rattle.register.specs.declared.Value.{Value}
use Rattle.entries.specs.declared.Entry.{Entry}
use Rattle.limits.specs.Limits.{entry_limit}
use Rattle.entries.specs.Model.{dots_in, values_in}
use Rattle.entries.specs.Valid.{ValidValue, ValidEntry, ValidEntries}
use Rattle.entries.proofs.Packs.{dots-in, values-in}
use Rattle.entries.proofs.EntryValid.{valid-as}
use Rattle.entries.proofs.Limits.{EntryFits}
use Rattle.records.specs.declared.Record.{Record}
use Rattle.records.specs.Kinds.{before}
use Rattle.scan.specs.Each.{every}
use Rattle.scan.specs.Numbers.{scan_number}
use Rattle.scan.proofs.Befores.{before-fields}
use Rattle.scan.proofs.Eachs.{decide, every-at, both_left, both_right}
use Rattle.scan.proofs.Rooms.{no_index, no_key, counter-from-one}
use Rattle.scan.proofs.Scanning.{scan-before}
use Rattle.clockimage.specs.Image.{is_kind, dot_of, content_of, dots_from}
use Rattle.maprecords.specs.Reading.{under_key, under_both, places_from, value_in, values_under, entry_in, entry_keys, entries_for}
use Rattle.clockimage.specs.ClockImage.{clock_in}
use Rattle.maprecords.specs.Related.{dotted, entry_whole}
use Rattle.maprecords.proofs.Counts.{by-records, entries-room}
use Rattle.maprecords.proofs.Entries.{keys-more, keys-same}
use Rattle.maprecords.proofs.Keys.{length-places}
use Rattle.acceptancelaws.proofs.Grouped.{fine, rises, dots-lawful}
use Rattle.acceptancelaws.proofs.Limited.{at_key, at_both, entry-dots-few, values-few, value-dots-few}

-- the last of ascending records stands behind each other
last-after : (l : List Record) (r s : Record) → Ascending before (l ++ (r ∷ [])) → s ∈ l → before s r ≡ true
last-after [] r s a i = absurd (Memᴰ.not-nil i)
last-after (x ∷ l) r s (next f a) i =
    ⊎_elim (λ (q : s ≡ x). rw q (f r (Memᴰ.append_right l (Memᴰ.head refl)))) (λ j. last-after l r s a j) (Memᴰ.cases_cons i)

-- the keys of entries
record KeysGood (l : List Record) : Type 0 where
  from : (k : ℕ) → k ∈ entry_keys l → (s : Record) × (s ∈ l) × ((s.kind ≡ 2) × (s.key ≡ k))
  rising : Ascending (by (λ k. k)) (entry_keys l)
  count : length (entry_keys l) ≤ entry_limit

no_keys : entry_keys [] ≡ []
unfolding entry_keys fold
no_keys = refl

keys-good : (l : List Record) → scan_number 1 6 l ≡ 0 → KeysGood l
keys-good = by-records (λ l. scan_number 1 6 l ≡ 0 → KeysGood l) (λ z. none) more
  where
    none : KeysGood []
    none = record { from = λ k i. absurd (Memᴰ.not-nil (rw no_keys at i)); rising = rw no_keys nil; count = omega (arith, ap length no_keys) }

    further : (l : List Record) (r : Record) → KeysGood l → entry_keys (l ++ (r ∷ [])) ≡ entry_keys l → KeysGood (l ++ (r ∷ []))
    further l r p e = record {
      from = λ k i. let (s, m, q) = p.from k (rw e at i) in (s, Memᴰ.append_left (r ∷ []) m, q);
      rising = rw e p.rising;
      count = omega (arith, ap length e, p.count);
    }

    added : (l : List Record) (r : Record) → KeysGood l → scan_number 1 6 (l ++ (r ∷ [])) ≡ 0 → r.kind ≡ 2
        → some (λ x. eqb x r.key) (entry_keys l) ≡ false
        → entry_keys (l ++ (r ∷ [])) ≡ entry_keys l ++ (r.key ∷ []) → KeysGood (l ++ (r ∷ []))
    added l r p z k f e = record {
      from = λ j i. ⊎_elim (λ m. let (s, n, q) = p.from j m in (s, Memᴰ.append_left (r ∷ []) n, q))
          (λ m. (r, Memᴰ.append_right l (Memᴰ.head refl), (k, sym (Memᴰ.eq_of_singleton m))))
          (mathlib.Core.List.Memᴰ.append_cases (entry_keys l) (rw e at i));
      rising = rw e (append-ascends p.rising (one-ascends r.key) (λ x y i j. rw (Memᴰ.eq_of_singleton j) (above x i)));
      count = let h = entries-room l r z k f in omega (arith, ap length e, length-snoc (entry_keys l) r.key);
    }
      where
        above : (x : ℕ) → x ∈ entry_keys l → ltb x r.key ≡ true
        above x i =
            let (s, m, q) = p.from x i in
            let most = (before-fields (last-after l r s (rises 1 6 (l ++ (r ∷ [])) z) m)).key (q.0 ∙ sym k) in
            let other = eqb-false x r.key (some-false (λ x. eqb x r.key) f x i) in
            let same = q.1 in
            lt-ltb x r.key (omega arith)

    more : (l : List Record) (r : Record) → (scan_number 1 6 l ≡ 0 → KeysGood l) → scan_number 1 6 (l ++ (r ∷ [])) ≡ 0 → KeysGood (l ++ (r ∷ []))
    more l r p z =
        let h = p (scan-before 1 6 l r z) in
        decide (eqb r.kind 2)
        (λ t. let k = eqb-true r.kind 2 t in
        decide (some (λ x. eqb x r.key) (entry_keys l)) (λ o. further l r h (keys-more l r k ∙ rw o))
        (λ n. added l r h z k n (keys-more l r k ∙ rw n)))
        (λ f. further l r h (keys-same l r (eqb-false r.kind 2 f)))

places-has : {A B : Type 0} (f : ℕ → A → B) (i : ℕ) (l : List A) (y : B) → y ∈ places_from f i l → (j : ℕ) × (x : A) × (y ≡ f j x)
unfolding places_from
places-has f i [] y m = absurd (Memᴰ.not-nil m)
places-has f i (x ∷ l) y m = ⊎_elim (λ (q : y ≡ f i x). (i, x, q)) (λ n. places-has f (i + 1) l y n) (Memᴰ.cases_cons m)

pub not-empty : {A : Type 0} (g : A → Dot) (m : List A) (x : A) → x ∈ m → is_empty (map g m) ≡ false
unfolding is_empty
not-empty g [] x i = absurd (Memᴰ.not-nil i)
not-empty g (y ∷ m) x i = ne_eqb (length (map g (y ∷ m))) 0 (λ e. omega arith)

flipped : (b : Bool) → not b ≡ true → b ≡ false
flipped true e = sym e
flipped false e = refl

module _ (l : List Record) (z : scan_number 1 6 l ≡ 0) where
  pub keys-count : length (entry_keys l) ≤ entry_limit
  keys-count = (keys-good l z).count

  -- dots of an entry, of a value
  entry-lawful : (key : ℕ) → Lawful (dots_from (under_key 2 key) l)
  entry-lawful key =
      dots-lawful 1 6 l z (under_key 2 key) 2 key 0 refl
      (λ x i t. let k = at_key key 2 x t in let g = fine 1 6 l z x i in record {
        kind-is = k.0;
        key-is = k.1;
        index_is = no_index 1 6 x g k.0 refl;
        counter = counter-from-one 1 6 x g k.0 refl (λ e. omega (arith, k.0)) (λ e. omega (arith, k.0));
      })

  value-lawful : (key index : ℕ) → Lawful (dots_from (under_both 4 key index) l)
  value-lawful key index =
      dots-lawful 1 6 l z (under_both 4 key index) 4 key index refl
      (λ x i t. let k = at_both key index x t in let g = fine 1 6 l z x i in record {
        kind-is = k.0.0;
        key-is = k.0.1;
        index_is = k.1;
        counter = counter-from-one 1 6 x g k.0.0 refl (λ e. omega (arith, k.0.0)) (λ e. omega (arith, k.0.0));
      })

  pub clock-lawful : Lawful (clock_in l)
  clock-lawful =
      dots-lawful 1 6 l z (is_kind 1) 1 0 0 refl
      (λ x i t. let k = eqb-true x.kind 1 t in let g = fine 1 6 l z x i in record {
        kind-is = k;
        key-is = no_key 1 6 x g k refl;
        index_is = no_index 1 6 x g k refl;
        counter = counter-from-one 1 6 x g k refl (λ e. omega (arith, k)) (λ e. omega (arith, k));
      })

  -- an entry that is whole
  module _ (key : ℕ) (here : key ∈ entry_keys l) (whole : entry_whole (clock_in l) (entry_in l key) ≡ true) where
    abbrev dots : List Dot
    dots = dots_from (under_key 2 key) l

    abbrev values : List Value
    values = values_under l key

    is-dotted : every dotted values ≡ true
    is-dotted = rw (values-in key dots values) at (both_right (covers (clock_in l) (dots_in (entry_in l key)))
        (every dotted (values_in (entry_in l key))) whole)

    value-valid : (v : Value) → v ∈ values → ValidValue v
    value-valid v i =
        let (j, r, q) = places-has (value_in l key) 0 (those (under_key 3 key) l) v i in
        let c = dots_from (under_both 4 key j) l in
        let e : dots_of v.clock ≡ c = dots-of c (ap (λ (x : Value). x.clock) q) in
        record {
          laid = q ∙ ap (λ m. record { clock = clock_of m; value = content_of r }) (sym e)
              ∙ ap (λ (x : Value). record { clock = clock_of (dots_of v.clock); value = x.value }) (sym q);
          clock = rw e (value-lawful key j);
          some = flipped (is_empty (dots_of v.clock)) (every-at dotted values v is-dotted i);
        }

    pub entry-valid : ValidEntry (clock_in l) (entry_in l key)
    entry-valid =
        let (s, m, q) = (keys-good l z).from key here in
        valid-as key dots values (entry-lawful key)
        (not-empty dot_of (those (under_key 2 key) l) s (those-holds (under_key 2 key) m
        (Rattle.scan.proofs.Eachs.both (is_kind 2 s) (eqb s.key key) (borrow.Author.Tests.eq-eqb s.kind 2 q.0)
        (borrow.Author.Tests.eq-eqb s.key key q.1))))
        (rw (dots-in key dots values) at (both_left (covers (clock_in l) (dots_in (entry_in l key)))
        (every dotted (values_in (entry_in l key))) whole))
        value-valid

    pub entry-fits : EntryFits (entry_in l key)
    entry-fits = record {
      dots = rw (dots-in key dots values) (entry-dots-few key l z);
      count = rw (values-in key dots values) (let h = values-few key l z in
          omega (arith, length-places (value_in l key) 0 (those (under_key 3 key) l)));
      each = λ v i. let (j, r, q) = places-has (value_in l key) 0 (those (under_key 3 key) l) v (rw (values-in key dots values) at i) in
          rw (dots-of (dots_from (under_both 4 key j) l) (ap (λ (x : Value). x.clock) q)) (value-dots-few key j l z);
    }

  module _ (all : every (entry_whole (clock_in l)) (entries_for l) ≡ true) where
    whole-at : (k : ℕ) → k ∈ entry_keys l → entry_whole (clock_in l) (entry_in l k) ≡ true
    whole-at k i = every-at (entry_whole (clock_in l)) (entries_for l) (entry_in l k) all (Memᴰ.map (entry_in l) i)

    map-rises : (ks : List ℕ) → Ascending (by (λ k. k)) ks → Ascending (by (λ (e : Entry). e.key)) (map (entry_in l) ks)
    map-rises [] a = nil
    map-rises (k ∷ ks) (next f a) = next {x = entry_in l k} (λ y i. let m = Memᴰ.of_map (entry_in l) ks i in rw (← m.2) (f m.0 m.1))
        (map-rises ks a)

    pub entries-valid : ValidEntries (clock_in l) (entries_for l)
    entries-valid = record {
      rising = map-rises (entry_keys l) (keys-good l z).rising;
      each = λ e i. let m = Memᴰ.of_map (entry_in l) (entry_keys l) i in rw (← m.2) (entry-valid m.0 m.1 (whole-at m.0 m.1));
    }

    pub entries_fit : (e : Entry) → e ∈ entries_for l → EntryFits e
    entries_fit e i = let m = Memᴰ.of_map (entry_in l) (entry_keys l) i in rw (← m.2) (entry-fits m.0 m.1 (whole-at m.0 m.1))

    pub entries-count : length (entries_for l) ≤ entry_limit
    entries-count = let h = keys-count in omega (arith, length-map (entry_keys l) (entry_in l))
