-- The entries that records stand for, with one record more.
use mathlib.Core.Path.{◌≡◌, refl, ap, ap₂, sym, ◌∙◌, fun_ext}
use mathlib.Core.Bool.{Bool, true, false, cond, ◌&&◌}
use mathlib.Core.List.{List, [], ◌∷◌, ◌++◌, map}
use Prim.Native.Nat.{ℕ, ◌+◌, ◌≤◌, ◌<◌}
use native.Mathlib.Omega.{arith}
use lib.Dec.{eqb}
use lib.ListN.{length, get_or, set, length-set}
use lib.Seq.{ext_get_or, get_or-set_same, get_or-set_other}
use borrow.Author.Tests.{eq-eqb, ne_eqb, eqb-true, eqb-false}
use Rattle.listlaws.specs.Order.{◌∈◌}
use Rattle.listlaws.specs.Sift.{those}
use Rattle.listlaws.specs.Fold.{fold}
use Rattle.listlaws.proofs.Folds.{fold-append}
use Rattle.listlaws.proofs.Those.{those-none}
use Rattle.clock.specs.Dots.{clock_of}
use Rattle.register.specs.declared.Value.{Value}
use Rattle.register.specs.Values.{no_value}
use Rattle.entries.specs.Model.{entry_as}
use Rattle.records.specs.declared.Record.{Record}
use Rattle.scan.proofs.Eachs.{decide, both}
use Rattle.scan.proofs.Rooms.{those-yes, those-no}
use Rattle.clockimage.specs.Image.{is_kind, dot_of, content_of, dots_from}
use Rattle.clockimage.proofs.Dots.{dots-more, dots-same}
use Rattle.maprecords.specs.Reading.{under_key, under_both, add_new, value_in, values_under, entry_in, entry_keys, entries_for, places_from}
use Rattle.maprecords.proofs.Keys.{Unique, unique-add, unique-none, fold-keeps, map_same, length-places, places-snoc, get-places}

keys-snoc : (l : List Record) (r : Record) → entry_keys (l ++ (r ∷ [])) ≡ cond (is_kind 2 r) (add_new (entry_keys l) r.key) (entry_keys l)
unfolding entry_keys fold
keys-snoc l r = fold-append (λ keys x. cond (is_kind 2 x) (add_new keys x.key) keys) [] l (r ∷ [])

pub keys-more : (l : List Record) (r : Record) → r.kind ≡ 2 → entry_keys (l ++ (r ∷ [])) ≡ add_new (entry_keys l) r.key
keys-more l r k = keys-snoc l r ∙ rw (eq-eqb r.kind 2 k)

pub keys-same : (l : List Record) (r : Record) → (r.kind ≡ 2 → ⊥) → entry_keys (l ++ (r ∷ [])) ≡ entry_keys l
keys-same l r n = keys-snoc l r ∙ rw (ne_eqb r.kind 2 n)

pub keys-unique : (l : List Record) → Unique (entry_keys l)
unfolding entry_keys
keys-unique l =
    fold-keeps Unique (λ keys x. cond (is_kind 2 x) (add_new keys x.key) keys) [] l unique-none
    (λ ks x u. decide (is_kind 2 x) (λ t. rw t (unique-add ks x.key u)) (λ f. rw f u))

-- a test of another kind, or of another key
other-kind : (kind key : ℕ) (r : Record) → (r.kind ≡ kind → ⊥) → under_key kind key r ≡ false
other-kind kind key r n = rw (ne_eqb r.kind kind n)

other_key : (kind key : ℕ) (r : Record) → (r.key ≡ key → ⊥) → under_key kind key r ≡ false
other_key kind key r n = rw (ne_eqb r.key key n) (go (is_kind kind r))
  where
    go : (b : Bool) → (b && false) ≡ false
    go true = refl
    go false = refl

own : (kind : ℕ) (r : Record) → r.kind ≡ kind → under_key kind r.key r ≡ true
own kind r k = both (is_kind kind r) (eqb r.key r.key) (eq-eqb r.kind kind k) (eq-eqb r.key r.key refl)

module _ (l : List Record) (r : Record) (key : ℕ) where
  -- a record that is no value dot of the key leaves every value's dots
  clocks-same : under_key 4 key r ≡ false → value_in (l ++ (r ∷ [])) key ≡ value_in l key
  clocks-same n =
      fun_ext (λ place. fun_ext (λ x. ap (λ d. record { clock = clock_of d; value = content_of x }) (dots-same (under_both 4 key place) l r (rw n))))

  values_same : under_key 3 key r ≡ false → under_key 4 key r ≡ false → values_under (l ++ (r ∷ [])) key ≡ values_under l key
  values_same n m = ap₂ (λ f k. places_from f 0 k) (clocks-same m) (those-no (under_key 3 key) l r n)

  entry-same : under_key 2 key r ≡ false → under_key 3 key r ≡ false → under_key 4 key r ≡ false → entry_in (l ++ (r ∷ [])) key ≡ entry_in l key
  entry-same a b c = ap₂ (entry_as key) (dots-same (under_key 2 key) l r a) (values_same b c)

-- an entry of another key
pub entry_other : (l : List Record) (r : Record) (key : ℕ) → (r.key ≡ key → ⊥) → entry_in (l ++ (r ∷ [])) key ≡ entry_in l key
entry_other l r key n = entry-same l r key (other_key 2 key r n) (other_key 3 key r n) (other_key 4 key r n)

-- a record that is no part of an entry
pub entries-same : (l : List Record) (r : Record) → (r.kind ≡ 2 → ⊥) → (r.kind ≡ 3 → ⊥) → (r.kind ≡ 4 → ⊥)
    → entries_for (l ++ (r ∷ [])) ≡ entries_for l
entries-same l r a b c =
    ap (map (entry_in (l ++ (r ∷ [])))) (keys-same l r a)
    ∙ map_same (entry_in l) (entry_in (l ++ (r ∷ []))) (entry_keys l) (λ key. entry-same l r key (other-kind 2 key r a) (other-kind 3 key r b)
    (other-kind 4 key r c))

module _ (l : List Record) (r : Record) where
  pub dot-entry : r.kind ≡ 2 → entry_in (l ++ (r ∷ [])) r.key ≡ entry_as r.key (dots_from (under_key 2 r.key) l ++ (dot_of r ∷ []))
      (values_under l r.key)
  dot-entry k =
      ap₂ (entry_as r.key) (dots-more (under_key 2 r.key) l r (own 2 r k))
      (values_same l r r.key (other-kind 3 r.key r (λ e. omega arith)) (other-kind 4 r.key r (λ e. omega arith)))

  -- nothing of a later kind stands before r
  none-later : ((s : Record) → s ∈ l → s.kind ≤ r.kind) → (kind key place : ℕ) → r.kind < kind → dots_from (under_both kind key place) l ≡ []
  none-later h kind key place k =
      ap (map dot_of) (those-none (under_both kind key place) l (λ s i. let b = h s i in rw (ne_eqb s.kind kind (λ e. omega arith))))

  pub value-entry : ((s : Record) → s ∈ l → s.kind ≤ r.kind) → r.kind ≡ 3 → entry_in (l ++ (r ∷ [])) r.key
      ≡ entry_as r.key (dots_from (under_key 2 r.key) l) (values_under l r.key ++ (record { clock = clock_of []; value = content_of r } ∷ []))
  value-entry h k =
      ap₂ (entry_as r.key) (dots-same (under_key 2 r.key) l r (other-kind 2 r.key r (λ e. omega arith)))
      (ap₂ (λ f m. places_from f 0 m) (clocks-same l r r.key (other-kind 4 r.key r (λ e. omega arith)))
      (those-yes (under_key 3 r.key) l r (own 3 r k))
      ∙ places-snoc (value_in l r.key) 0 (those (under_key 3 r.key) l) r
      ∙ ap (λ d. values_under l r.key ++ (record { clock = clock_of d; value = content_of r } ∷ []))
      (none-later h 4 r.key (0 + length (those (under_key 3 r.key) l)) (omega arith)))

  -- a value dot goes to the value at its index
  pub value-dot-entry : r.kind ≡ 4 → r.index < length (values_under l r.key) → entry_in (l ++ (r ∷ [])) r.key
      ≡ entry_as r.key (dots_from (under_key 2 r.key) l)
      (set (values_under l r.key) r.index
      (record {
        clock = clock_of (dots_from (under_both 4 r.key r.index) l ++ (dot_of r ∷ []));
        value = (get_or (values_under l r.key)
            r.index no_value).value;
      }))
  value-dot-entry k h =
      ap₂ (entry_as r.key) (dots-same (under_key 2 r.key) l r (other-kind 2 r.key r (λ e. omega arith)))
      (ap (places_from (value_in (l ++ (r ∷ [])) r.key) 0) (those-no (under_key 3 r.key) l r (other-kind 3 r.key r (λ e. omega arith)))
      ∙ ext_get_or no_value _ _ (length-places (value_in (l ++ (r ∷ [])) r.key) 0 vs
      ∙ sym (length-set (values_under l r.key) r.index new ∙ length-places (value_in l r.key) 0 vs)) each)
    where
      vs : List Record
      vs = those (under_key 3 r.key) l

      new : Value
      new = record {
        clock = clock_of (dots_from (under_both 4 r.key r.index) l ++ (dot_of r ∷ []));
        value = (get_or (values_under l r.key)
            r.index no_value).value;
      }

      none : Record
      none = record { kind = 0; index = 0; actor = 0; key = 0; number = 0 }

      old : (i : ℕ) → i < length vs → get_or (values_under l r.key) i no_value ≡ value_in l r.key (0 + i) (get_or vs i none)
      old i g = get-places (value_in l r.key) 0 vs i none no_value g

      each : (i : ℕ) → i < length (places_from (value_in (l ++ (r ∷ [])) r.key) 0 vs)
          → get_or (places_from (value_in (l ++ (r ∷ [])) r.key) 0 vs) i no_value ≡ get_or (set (values_under l r.key) r.index new) i no_value
      each i b =
          let g = rw (length-places (value_in (l ++ (r ∷ [])) r.key) 0 vs) at b in
          let at : 0 + i ≡ i = omega arith in
          let now = get-places (value_in (l ++ (r ∷ [])) r.key) 0 vs i none no_value g in
          decide (eqb i r.index)
          (λ t. let e = eqb-true i r.index t in
          now ∙ ap₂ (λ d n. record { clock = clock_of d; value = n })
          (ap (λ k. dots_from (under_both 4 r.key k) (l ++ (r ∷ []))) (at ∙ e)
          ∙ dots-more (under_both 4 r.key r.index) l r (both (under_key 4 r.key r) (eqb r.index r.index) (own 4 r k)
          (eq-eqb r.index r.index refl)))
          (ap (λ j. content_of (get_or vs j none)) e ∙ sym (ap (λ v. v.value) (old r.index (rw e at g))))
          ∙ sym (ap (λ j. get_or (set (values_under l r.key) r.index new) j no_value) e
          ∙ get_or-set_same (values_under l r.key) r.index new no_value h))
          (λ f. let n = eqb-false i r.index f in
          now ∙ ap (λ d. record { clock = clock_of d; value = content_of (get_or vs i none) })
          (dots-same (under_both 4 r.key (0 + i)) l r (rw (own 4 r k) (ne_eqb r.index (0 + i) (λ q. n (sym (q ∙ at))))))
          ∙ sym (get_or-set_other (values_under l r.key) r.index i new no_value n ∙ old i g))
