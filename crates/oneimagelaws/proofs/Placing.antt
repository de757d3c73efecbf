-- What each record of an image needs stands in the image: its entry, its value, its waiting clock; and values are numbered from 0.
use mathlib.Core.Path.{◌≡◌, refl, ap, ap₂, sym, ◌∙◌}
use mathlib.Core.Bool.{Bool, true, cond, ◌&&◌}
use mathlib.Core.Logic.{⊎_elim}
use mathlib.Core.List.Memᴰ
use mathlib.Core.List.{List, [], ◌∷◌, ◌++◌, map}
use Prim.Native.Nat.{ℕ, ◌+◌, ◌≤◌, ◌<◌, max}
use native.Mathlib.Omega.{arith}
use native.Mathlib.Numerals.{add-one}
use lib.Dec.{eqb, ltb}
use lib.ListN.{length, get_or, length-append, get_or-map}
use borrow.Author.Tests.{eqb-true, eqb-false, eq-eqb, ne_eqb, ltb-true}
use Rattle.listlaws.specs.Order.{◌∈◌}
use Rattle.listlaws.specs.First.{some}
use Rattle.listlaws.specs.Fold.{fold}
use Rattle.listlaws.specs.Sift.{sift, those}
use Rattle.listlaws.proofs.Folds.{fold-append}
use Rattle.listlaws.proofs.Pads.{length-snoc}
use Rattle.listlaws.proofs.Sifts.{sift-append}
use Rattle.listlaws.proofs.Somes.{some-means}
use Rattle.listlaws.proofs.Those.{those-holds}
use Rattle.entries.specs.declared.Entry.{Entry}
use Rattle.entries.specs.Model.{values_in}
use Rattle.entries.proofs.Packs.{values-in}
use Rattle.records.specs.declared.Record.{Record}
use Rattle.scan.specs.Each.{each}
use Rattle.scan.proofs.Eachs.{decide, each_snoc, both_left, both_right}
use Rattle.scan.proofs.Rooms.{those-yes, those-no}
use Rattle.clockimage.specs.Image.{is_kind, dots_from}
use Rattle.clockimage.proofs.Dots.{map_snoc}
use Rattle.opimage.specs.OpImage.{no_record}
use Rattle.maprecords.specs.Reading.{under_key, value_in, values_under, entry_in, entry_keys, entries_for, waiting_count, numbers_below}
use Rattle.maprecords.specs.Related.{finds_place}
use Rattle.maprecords.proofs.Counts.{by-records, indexes-below}
use Rattle.maprecords.proofs.Entries.{keys-more, keys-same}
use Rattle.maprecords.proofs.Keys.{length-places, get-below}
use Rattle.maprecords.proofs.Readers.{placed-now}
use Rattle.acceptancelaws.proofs.Limited.{at_key}
use Rattle.oneimagelaws.proofs.Stands.{Place, place-below, place-reads, in_place}
use Rattle.oneimagelaws.proofs.Keyed.{keys-has}
use Rattle.oneimagelaws.proofs.Made.{place-moved}

pub record Settled (l : List Record) (r : Record) : Type 0 where
  pub entry : 2 ≤ r.kind → r.kind ≤ 4 → r.key ∈ entry_keys l
  pub value : r.kind ≡ 4 → r.index < length (those (under_key 3 r.key) l)
  pub waiting : 5 ≤ r.kind → r.kind ≤ 6 → r.index < waiting_count l

-- one record more takes nothing away
module _ (l : List Record) (r : Record) where
  keys-grow : (k : ℕ) → k ∈ entry_keys l → k ∈ entry_keys (l ++ (r ∷ []))
  keys-grow k i =
      decide (eqb r.kind 2)
      (λ t. rw (keys-more l r (eqb-true r.kind 2 t)) (decide (some (λ x. eqb x r.key) (entry_keys l)) (λ o. rw o i)
      (λ n. rw n (Memᴰ.append_left (r.key ∷ []) i))))
      (λ f. rw (keys-same l r (eqb-false r.kind 2 f)) i)

  those-grow : (test : Record → Bool) → length (those test l) ≤ length (those test (l ++ (r ∷ [])))
  those-grow test = omega (arith, ap length (sift-append test (λ x. x) l (r ∷ [])) ∙ length-append (those test l) (those test (r ∷ [])))

  count-snoc : waiting_count (l ++ (r ∷ [])) ≡ cond (is_kind 5 r) (max (waiting_count l) (r.index + 1)) (waiting_count l)
  unfolding waiting_count fold
  count-snoc = fold-append (λ n x. cond (is_kind 5 x) (max n (x.index + 1)) n) 0 l (r ∷ [])

  count-grow : waiting_count l ≤ waiting_count (l ++ (r ∷ []))
  count-grow =
      decide (is_kind 5 r) (λ t. let e : waiting_count (l ++ (r ∷ [])) ≡ max (waiting_count l) (r.index + 1) = count-snoc ∙ rw t in omega arith)
      (λ f. let e : waiting_count (l ++ (r ∷ [])) ≡ waiting_count l = count-snoc ∙ rw f in omega arith)

  still-settled : (s : Record) → Settled l s → Settled (l ++ (r ∷ [])) s
  still-settled s h = record {
    entry = λ a b. keys-grow s.key (h.entry a b);
    value = λ k. omega (arith, h.value k, those-grow (under_key 3 s.key));
    waiting = λ a b. omega (arith, h.waiting a b, count-grow);
  }

  -- an entry of the record's key, whose number of values passes a test
  entry_found : (test : ℕ → Bool) → some (λ e. eqb e.key r.key && test (length (values_in e))) (entries_for l) ≡ true
      → (r.key ∈ entry_keys l) × (test (length (those (under_key 3 r.key) l)) ≡ true)
  entry_found test t =
      let (e, i, p) = some-means (λ (e : Entry). eqb e.key r.key && test (length (values_in e))) (entries_for l) t in
      let (k, j, q) = Memᴰ.of_map (entry_in l) (entry_keys l) i in
      let same : r.key ≡ k = sym (ap (λ (x : Entry). x.key) q ∙ eqb-true e.key r.key
      (both_left (eqb e.key r.key) (test (length (values_in e))) p)) in
      let n : length (values_in e) ≡ length (those (under_key 3 k) l) = ap (λ (x : Entry). length (values_in x)) (sym q)
      ∙ ap length (values-in k (dots_from (under_key 2 k) l) (values_under l k)) ∙ length-places (value_in l k) 0 (those (under_key 3 k) l) in (
        Memᴰ.cast same j,
        ap test (ap (λ x. length (those (under_key 3 x) l)) same ∙ sym n)
            ∙ both_right (eqb e.key r.key) (test (length (values_in e))) p,
      )

  module _ (p : each finds_place (l ++ (r ∷ [])) ≡ true) where
    value_found : r.kind ≡ 3 → (r.key ∈ entry_keys l) × (eqb (length (those (under_key 3 r.key) l)) r.index ≡ true)
    value_found k = entry_found (λ n. eqb n r.index) (rw (eq-eqb r.kind 3 k) at (placed-now l r p).0)

    value-dot-found : r.kind ≡ 4 → (r.key ∈ entry_keys l) × (ltb r.index (length (those (under_key 3 r.key) l)) ≡ true)
    value-dot-found k = entry_found (λ n. ltb r.index n) (rw (ne_eqb r.kind 3 (λ e. omega arith), eq-eqb r.kind 4 k) at
        (placed-now l r p).0)

    here : r ∈ (l ++ (r ∷ []))
    here = Memᴰ.append_right l (Memᴰ.head refl)

    last-settled : Settled (l ++ (r ∷ [])) r
    last-settled = record {
      entry = λ a b. decide (eqb r.kind 2) (λ t. keys-has (l ++ (r ∷ [])) r here (eqb-true r.kind 2 t))
          (λ f. keys-grow r.key (decide (eqb r.kind 3) (λ t. (value_found (eqb-true r.kind 3 t)).0)
          (λ g. (value-dot-found (omega (arith, eqb-false r.kind 2 f, eqb-false r.kind 3 g))).0)));
      value = λ k. omega (
        arith,
        ltb-true r.index (length (those (under_key 3 r.key) l)) (value-dot-found k).1,
        those-grow (under_key 3 r.key),
      );
      waiting = λ a b. decide (eqb r.kind 5)
          (λ t. indexes-below (l ++ (r ∷ [])) r here (eqb-true r.kind 5 t))
          (λ f. let k : r.kind ≡ 6 = omega (arith, eqb-false r.kind 5 f) in
          omega (arith, ltb-true r.index (waiting_count l) (rw (f, eq-eqb r.kind 6 k) at (placed-now l r p).1), count-grow));
    }

-- each record of the image finds in it what it needs
pub settled : (l : List Record) → each finds_place l ≡ true → (r : Record) → r ∈ l → Settled l r
settled = by-records (λ l. each finds_place l ≡ true → (r : Record) → r ∈ l → Settled l r) (λ p r i. absurd (Memᴰ.not-nil i)) more
  where
    more : (l : List Record) (r : Record) → (each finds_place l ≡ true → (s : Record) → s ∈ l → Settled l s) → each finds_place (l ++ (r ∷ [])) ≡ true
        → (s : Record) → s ∈ (l ++ (r ∷ [])) → Settled (l ++ (r ∷ [])) s
    more l r h p s i =
        ⊎_elim (λ j. still-settled l r s (h (both_left (each finds_place l) (finds_place l r) (sym (each_snoc finds_place l r) ∙ p)) s j))
        (λ j. let same : s ≡ r = Memᴰ.eq_of_singleton j in rw same (last-settled l r p)) (Memᴰ.append_cases l i)

-- the values of a key, in their order
module _ (key : ℕ) where
  indexes-rise : (l : List Record) → each finds_place l ≡ true → map (λ r. r.index) (those (under_key 3 key) l) ≡ numbers_below
      (length (those (under_key 3 key) l))
  unfolding sift numbers_below
  indexes-rise = by-records (λ l. each finds_place l ≡ true → map (λ r. r.index) (those (under_key 3 key) l) ≡ numbers_below
      (length (those (under_key 3 key) l))) (λ p. refl) more
    where
      more : (l : List Record) (r : Record) → (each finds_place l ≡ true
          → map (λ r. r.index) (those (under_key 3 key) l) ≡ numbers_below (length (those (under_key 3 key) l)))
          → each finds_place (l ++ (r ∷ [])) ≡ true → map (λ r. r.index) (those (under_key 3 key) (l ++ (r ∷ []))) ≡ numbers_below
          (length (those (under_key 3 key) (l ++ (r ∷ []))))
      more l r h p =
          let before = h (both_left (each finds_place l) (finds_place l r) (sym (each_snoc finds_place l r) ∙ p)) in
          decide (under_key 3 key r)
          (λ t. let k = at_key key 3 r t in
          let n : length (those (under_key 3 key) l) ≡ r.index = ap (λ q. length (those (under_key 3 q) l)) (sym k.1)
          ∙ eqb-true (length (those (under_key 3 r.key) l)) r.index (value_found l r p k.0).1 in
          rw (those-yes (under_key 3 key) l r t, length-snoc (those (under_key 3 key) l) r, add-one)
          (map_snoc (λ r. r.index) (those (under_key 3 key) l) r ∙ ap₂ (λ a b. a ++ (b ∷ [])) before (sym n)))
          (λ f. rw (those-no (under_key 3 key) l r f) before)

  -- the value at a place has the place for its index
  pub place-index : (l : List Record) → each finds_place l ≡ true → {r : Record} {j : ℕ} → Place r j (those (under_key 3 key) l) → r.index ≡ j
  place-index l p {r} {j} s =
      let vs = those (under_key 3 key) l in
      ap (λ (x : Record). x.index) (sym (place-reads no_record s)) ∙ sym (get_or-map (λ (x : Record). x.index) vs j no_record)
      ∙ ap (λ m. get_or m j 0) (indexes-rise l p) ∙ get-below (length vs) j (place-below s)

-- so a value stands at its index
pub value-place : (l : List Record) → each finds_place l ≡ true → (r : Record) → r ∈ l → under_key 3 r.key r ≡ true
    → Place r r.index (those (under_key 3 r.key) l)
value-place l p r i t = let (j, s) = in_place (those-holds (under_key 3 r.key) i t) in place-moved (sym (place-index r.key l p s)) s
