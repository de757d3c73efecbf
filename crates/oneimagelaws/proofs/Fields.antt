-- What is read from bytes has numbers that fit their fields.
use mathlib.Core.Path.{◌≡◌, refl}
use mathlib.Core.Bool.{Bool, true, false, cond}
use mathlib.Core.Logic.{⊎_elim}
use mathlib.Core.List.Memᴰ
use mathlib.Core.List.{List, [], ◌∷◌, ◌++◌, map}
use Prim.Native.Nat.{ℕ, ◌+◌, ◌/◌, ◌%◌, ◌<◌, ◌^◌}
use native.Mathlib.Omega.{arith}
use lib.Dec.{eqb, ltb}
use lib.ListN.{length}
use Rattle.listlaws.specs.First.{some}
use Rattle.listlaws.specs.Order.{◌∈◌}
use Rattle.listlaws.specs.Sift.{those}
use Rattle.listlaws.proofs.Pads.{take-pad}
use Rattle.listlaws.proofs.Sides.{fold-keeps}
use Rattle.listlaws.proofs.Those.{those-means}
use Rattle.clock.specs.declared.Dot.{Dot}
use Rattle.limits.specs.Limits.{dot_limit}
use Rattle.clock.specs.Dots.{no_dot}
use Rattle.entries.specs.declared.Entry.{Entry}
use Rattle.removals.specs.declared.Removal.{Removal}
use Rattle.removals.specs.Model.{removal_as}
use Rattle.removals.proofs.Packs.{keys-of}
use Rattle.map.specs.Model.{no_map}
use Rattle.records.specs.declared.Record.{Record}
use Rattle.records.specs.Bytes.{Bytes}
use Rattle.records.specs.Records.{records_of}
use Rattle.records.proofs.RoundTrips.{Fitting, read-all-fit}
use Rattle.scan.specs.Numbers.{scan_number}
use Rattle.scan.proofs.Eachs.{decide}
use Rattle.clockimage.specs.Image.{is_kind, dot_of, dots_from, DotFits}
use Rattle.opimage.specs.OpImage.{op_longest, no_record, record_of, keys_in, op_in, op_related, refused_op, judged_op, read_op}
use Rattle.mapimage.specs.MapImage.{map_longest}
use Rattle.maprecords.specs.Reading.{under_key, under_index, under_both, places_from, value_in, values_under, entry_in, entry_keys, entries_for}
use Rattle.maprecords.specs.Reading.{waiting_count}
use Rattle.maprecords.specs.Reading.{waiting_removal_in, numbers_below, waiting_for, map_in}
use Rattle.clockimage.specs.ClockImage.{clock_in}
use Rattle.maprecords.specs.Related.{related, judged_map, read_map}
use Rattle.oneimagelaws.specs.Narrow.{NarrowDots, NarrowValue, NarrowEntry, NarrowRemoval, Narrow, NarrowOp}
use Rattle.oneimagelaws.proofs.Narrows.{narrow-as, narrow-map}

no_member : {A : Type 0} (P : A → Type 0) (x : A) → x ∈ [] → P x
no_member P x i = absurd (Memᴰ.not-nil i)

pub places-every : {A B : Type 0} (P : B → Type 0) (f : ℕ → A → B) (i : ℕ) (l : List A) → ((j : ℕ) (x : A) → x ∈ l → P (f j x)) → (z : B)
    → z ∈ places_from f i l → P z
unfolding places_from
places-every P f i [] g z m = no_member P z m
places-every P f i (x ∷ l) g z m =
    ⊎_elim (λ (e : z ≡ f i x). rw e (g i x (Memᴰ.head refl))) (λ j. places-every P f (i + 1) l (λ k y a. g k y (Memᴰ.tail a)) z j)
    (Memᴰ.cases_cons m)

narrow-removal : (c : List Dot) (k : List ℕ) → NarrowDots c → ((n : ℕ) → n ∈ k → n < 2 ^ 32) → NarrowRemoval (removal_as c k)
narrow-removal c k f g = record { dots = rw (take-pad no_dot dot_limit c) f; keys = rw (keys-of k) g }

module _ (l : List Record) (f : (r : Record) → r ∈ l → Fitting r) where
  dots-narrow : (test : Record → Bool) → NarrowDots (dots_from test l)
  dots-narrow test d i =
      let y = Memᴰ.of_map dot_of (those test l) i in
      let n = f y.0 (those-means test l y.1).0 in
      rw (← y.2) (record { actor = n.actor; counter = n.number })

  keys-narrow : (test : Record → Bool) (k : ℕ) → k ∈ keys_in test l → k < 2 ^ 32
  keys-narrow test k i = let y = Memᴰ.of_map (λ (r : Record). r.key) (those test l) i in rw (← y.2) (f y.0 (those-means test l y.1).0).key

  entry-keys-narrow : (k : ℕ) → k ∈ entry_keys l → k < 2 ^ 32
  unfolding entry_keys
  entry-keys-narrow =
      fold-keeps (λ keys r. cond (is_kind 2 r) (cond (some (λ x. eqb x r.key) keys) keys (keys ++ (r.key ∷ []))) keys) (λ keys. (k : ℕ) → k ∈ keys
      → k < 2 ^ 32) l
      (λ keys r i g. kept (is_kind 2 r) (some (λ x. eqb x r.key) keys) keys r.key (f r i).key g) [] (no_member (λ k. k < 2 ^ 32))
    where
      kept : (a b : Bool) (keys : List ℕ) (n : ℕ) → n < 2 ^ 32 → ((k : ℕ) → k ∈ keys → k < 2 ^ 32) → (k : ℕ)
          → k ∈ cond a (cond b keys (keys ++ (n ∷ []))) keys → k < 2 ^ 32
      kept true true keys n p g = g
      kept true false keys n p g = λ k i. ⊎_elim (λ j. g k j) (λ j. let same : k ≡ n = Memᴰ.eq_of_singleton j in rw same p)
          (Memᴰ.append_cases keys i)
      kept false b keys n p g = g

  entry-narrow : (e : Entry) → e ∈ entries_for l → NarrowEntry e
  entry-narrow e i =
      let y = Memᴰ.of_map (entry_in l) (entry_keys l) i in
      rw (← y.2)
      (narrow-as y.0 (dots_from (under_key 2 y.0) l) (values_under l y.0) (entry-keys-narrow y.0 y.1) (dots-narrow (under_key 2 y.0))
      (places-every NarrowValue (value_in l y.0) 0 (those (under_key 3 y.0) l)
      (λ j r a. record {
        dots = rw (take-pad no_dot dot_limit (dots_from (under_both 4 y.0 j) l))
            (dots-narrow (under_both 4 y.0 j));
        value = let n = f r (those-means (under_key 3 y.0) l a).0 in
            record { number = n.number; origin = n.actor };
      })))

  waiting-narrow : (r : Removal) → r ∈ waiting_for l → NarrowRemoval r
  waiting-narrow r i =
      let y = Memᴰ.of_map (waiting_removal_in l) (numbers_below (waiting_count l)) i in
      rw (← y.2) (narrow-removal (dots_from (under_index 5 y.0) l) (keys_in (under_index 6 y.0) l) (dots-narrow (under_index 5 y.0))
      (keys-narrow (under_index 6 y.0)))

  map-in-narrow : Narrow (map_in l)
  map-in-narrow = narrow-map (clock_in l) (entries_for l) (waiting_for l) (dots-narrow (is_kind 1)) entry-narrow waiting-narrow

  record-narrow : (kind : ℕ) → Fitting (record_of kind l)
  unfolding record_of
  record-narrow kind =
      fold-keeps (λ q r. cond (is_kind kind r) r q) Fitting l (λ q r i g. kept (is_kind kind r) (f r i) g) no_record
      (record { kind = omega arith; index = omega arith; actor = omega arith; key = omega arith; number = omega arith })
    where
      kept : (b : Bool) {r q : Record} → Fitting r → Fitting q → Fitting (cond b r q)
      kept true p g = p
      kept false p g = g

  op-in-narrow : NarrowOp (op_in l)
  op-in-narrow = record {
    removal = narrow-removal (dots_from (is_kind 8) l) (keys_in (is_kind 9) l) (dots-narrow (is_kind 8)) (keys-narrow (is_kind 9));
    update = record {
      dot = record { actor = (record-narrow 10).actor; counter = (record-narrow 10).number };
      key = (record-narrow 10).key;
      put = record {
        dots = rw (take-pad no_dot dot_limit (dots_from (is_kind 12) l))
            (dots-narrow (is_kind 12));
        value = record { number = (record-narrow 11).number; origin = (record-narrow 11).actor };
      };
    };
  }

no-map-narrow : Narrow no_map
no-map-narrow = narrow-map [] [] [] (no_member DotFits) (no_member NarrowEntry) (no_member NarrowRemoval)

no-op-narrow : (n : ℕ) → NarrowOp (refused_op n).op
no-op-narrow n = record {
  removal = narrow-removal [] [] (no_member DotFits) (no_member (λ k. k < 2 ^ 32));
  update = record {
    dot = record { actor = omega arith; counter = omega arith };
    key = omega arith;
    put = record { dots = no_member DotFits; value = record { number = omega arith; origin = omega arith } };
  };
}

pub map-narrow : (s : List ℕ) → Bytes s → Narrow (read_map s).map
unfolding read_map
map-narrow s b =
    decide (ltb map_longest (length s)) (λ t. rw t no-map-narrow)
    (λ f. decide (eqb (length s % 16) 0) (λ t. rw (f, t) (judged-narrow (records_of s) (read-all-fit s b (length s / 16) 0)))
    (λ n. rw (f, n) no-map-narrow))
  where
    judged-narrow : (l : List Record) → ((r : Record) → r ∈ l → Fitting r) → Narrow (judged_map l).map
    judged-narrow l g =
        decide (eqb (scan_number 1 6 l) 0) (λ t. decide (related l) (λ r. rw (t, r) (map-in-narrow l g)) (λ n. rw (t, n) no-map-narrow))
        (λ n. rw n no-map-narrow)

pub op-narrow : (o : List ℕ) → Bytes o → NarrowOp (read_op o).op
unfolding read_op
op-narrow s b =
    decide (ltb op_longest (length s)) (λ t. rw t (no-op-narrow 2))
    (λ f. decide (eqb (length s % 16) 0) (λ t. rw (f, t) (judged-narrow (records_of s) (read-all-fit s b (length s / 16) 0)))
    (λ n. rw (f, n) (no-op-narrow 1)))
  where
    judged-narrow : (l : List Record) → ((r : Record) → r ∈ l → Fitting r) → NarrowOp (judged_op l).op
    judged-narrow l g =
        decide (eqb (scan_number 7 12 l) 0) (λ t. decide (op_related l) (λ r. rw (t, r) (op-in-narrow l g)) (λ n. rw (t, n) (no-op-narrow 3)))
        (λ n. rw n (no-op-narrow (scan_number 7 12 l)))
