-- Each premise of a merge with oneself is needed: small maps that break only that one and come out of the merge changed.
use mathlib.Core.Path.{◌≡◌, refl, ap, sym, ◌∙◌}
use mathlib.Core.Bool.{true, false}
use mathlib.Core.Logic.{⊎_elim}
use mathlib.Core.List.Memᴰ
use mathlib.Core.List.{List, [], ◌∷◌, flatten}
use Prim.Native.Nat.{ℕ, ◌<◌}
use native.Mathlib.Omega.{arith}
use lib.Dec.{ltb}
use lib.ListN.{get_or}
use Rattle.listlaws.specs.Pad.{pad}
use Rattle.listlaws.specs.Sift.{sift}
use Rattle.listlaws.specs.First.{first_in}
use Rattle.listlaws.specs.Fold.{fold}
use Rattle.listlaws.specs.Weave.{weave}
use Rattle.listlaws.specs.Order.{◌∈◌, Ascending, nil, next, by}
use Rattle.listlaws.proofs.Orders.{apart}
use Rattle.listlaws.proofs.Sides.{one-ascends}
use Rattle.clock.specs.declared.Dot.{Dot}
use Rattle.clock.specs.Dots.{dots_of, is_empty, counter_in, covers, order_of, cut_dots, join_dots, common_dots}
use Rattle.clock.specs.Lawful.{Lawful}
use Rattle.clock.proofs.Joins.{lawful-one}
use Rattle.clock.proofs.Covers.{covers-refl, order-self}
use Rattle.clock.proofs.Examples.{dot, one}
use Rattle.register.proofs.Examples.{value}
use Rattle.register.specs.declared.Value.{Value}
use Rattle.register.specs.Values.{yielding, yields, outdone, cut_values, ours_left, merge_values}
use Rattle.entries.specs.declared.Entry.{Entry}
use Rattle.removals.specs.declared.Removal.{Removal}
use Rattle.entries.specs.Model.{no_entry, values_in, entry_as}
use Rattle.removals.specs.Model.{under_of, removal_as}
use Rattle.entries.specs.Entries.{cut_entry, remove_from, remove_entries, cut_alone, alone, keep_dots, merge_both, together, merge_entries}
use Rattle.removals.specs.Waits.{listed, waits, clock_before, union_keys, unite_all}
use Rattle.entries.specs.Valid.{ValidValue, ValidEntry, ValidEntries}
use Rattle.removals.specs.Valid.{ValidWaiting}
use Rattle.entries.proofs.Packs.{dots-in}
use Rattle.entries.proofs.Cuts.{whole-as}
use Rattle.removals.proofs.WaitingValid.{valid-none, valid-one}
use Rattle.map.specs.declared.Map.{Map}
use Rattle.map.specs.Model.{map_as}
use Rattle.map.specs.Removing.{remove, afresh}
use Rattle.map.specs.Merging.{merge}
use Rattle.map.specs.Judging.{over_dots, over_entries, over_values, over_waiting, over_keys, over_number}
use Rattle.map.specs.Valid.{Valid, Within}
use Rattle.map.proofs.Kept.{valid-as}
use Rattle.selfmergelaws.specs.Premises.{NoneBelow, NoneDominated, Untouched, Uncovered}
use Rattle.selfmergelaws.proofs.Merges.{merge-self}

-- actor : counter
-- entry 5 under {1:n}, with these values
abbrev five : ℕ → List Value → Entry
five n l = entry_as 5 (one 1 n) l

-- 5 under {1:1,2:1}, which the maps here do not cover
abbrev ahead : Removal
ahead = removal_as (dot 1 1 ∷ dot 2 1 ∷ []) (5 ∷ [])

-- 5 under {1:1}
abbrev behind : Removal
behind = removal_as (one 1 1) (5 ∷ [])

-- a value whose clock is strictly below another's: it goes
abbrev outdated : Map
outdated = map_as (one 1 2) (five 2 (value (one 1 1) 40 ∷ value (one 1 2) 41 ∷ []) ∷ []) []

abbrev outdated_after : Map
outdated_after = map_as (one 1 2) (five 2 (value (one 1 2) 41 ∷ []) ∷ []) []

-- an entry's dot at a waiting clock that lists the key: the entry goes
abbrev entry_touched : Map
entry_touched = map_as (one 1 1) (five 1 [] ∷ []) (ahead ∷ [])

abbrev entry_touched_after : Map
entry_touched_after = map_as (one 1 1) [] (ahead ∷ [])

-- a value's dot there: the value goes
abbrev value_touched : Map
value_touched = map_as (one 1 2) (five 2 (value (one 1 1) 40 ∷ []) ∷ []) (ahead ∷ [])

abbrev value_touched_after : Map
value_touched_after = map_as (one 1 2) (five 2 [] ∷ []) (ahead ∷ [])

-- a waiting clock that the map clock covers: the removal goes
abbrev overtaken : Map
overtaken = map_as (one 1 1) [] (behind ∷ [])

abbrev overtaken_after : Map
overtaken_after = map_as (one 1 1) [] []

-- what the merges give, and that the maps are within the limits
record Computed : Type 0 where
  outdated-merged : merge outdated outdated ≡ outdated_after
  entry-merged : merge entry_touched entry_touched ≡ entry_touched_after
  value-merged : merge value_touched value_touched ≡ value_touched_after
  overtaken-merged : merge overtaken overtaken ≡ overtaken_after
  outdated-fits : over_number outdated ≡ 0
  entry-fits : over_number entry_touched ≡ 0
  value-fits : over_number value_touched ≡ 0
  overtaken-fits : over_number overtaken ≡ 0

computed : Computed
unfolding pad sift first_in fold weave is_empty counter_in covers order_of cut_dots join_dots common_dots yields outdone cut_values ours_left
    merge_values
    cut_entry listed remove_from remove_entries waits clock_before union_keys unite_all remove afresh cut_alone alone keep_dots merge_both together
    flatten
    merge_entries merge over_dots over_entries over_values over_waiting over_keys over_number
computed = record {
  outdated-merged = refl;
  entry-merged = refl;
  value-merged = refl;
  overtaken-merged = refl;
  outdated-fits = refl;
  entry-fits = refl;
  value-fits = refl;
  overtaken-fits = refl;
}

-- a valid map within the limits that keeps two premises and not the third, and that a merge with itself changes
pub record Changed (Broken Kept Also : Map → Type 0) (m after : Map) : Type 0 where
  pub within : Within m
  pub kept : Kept m
  pub also : Also m
  pub broken : Broken m → ⊥
  pub merged : merge m m ≡ after
  pub differs : after ≡ m → ⊥

-- with the third premise it would not be changed
changed : {Broken Kept Also : Map → Type 0} {m after : Map} → (Valid m → Broken m → Kept m → Also m → merge m m ≡ m) → Within m → Kept m → Also m
    → merge m m ≡ after → (after ≡ m → ⊥) → Changed Broken Kept Also m after
changed law h k a e d = record { within = h; kept = k; also = a; broken = λ b. d (sym e ∙ law h.valid b k a); merged = e; differs = d }

-- what holds of x holds of all of the list of x alone
only : {A : Type 0} (P : A → Type 0) {x : A} → P x → (y : A) → y ∈ (x ∷ []) → P y
only P p y i = rw (Memᴰ.eq_of_singleton i) p

-- that the maps are valid
lawful : (n : ℕ) → 0 < n → Lawful (one 1 n)
lawful n h = lawful-one (dot 1 n) h

valid-value : (n x : ℕ) → 0 < n → ValidValue (value (one 1 n) x)
unfolding pad is_empty
valid-value n x h = record { laid = refl; clock = lawful n h; some = refl }

valid-five : (n : ℕ) (l : List Value) → 0 < n → ((v : Value) → v ∈ l → ValidValue v) → ValidEntries (one 1 n) (five n l ∷ [])
valid-five n l h f = record { rising = one-ascends (five n l); each = only (ValidEntry (one 1 n)) entry }
  where
    entry : ValidEntry (one 1 n) (five n l)
    entry = let w = whole-as 5 (lawful n h) f in record {
      laid = w.laid;
      clock = w.clock;
      some = rw (dots-in 5 (one 1 n) l) (unfold is_empty in refl);
      covered = rw (dots-in 5 (one 1 n) l) (covers-refl (lawful n h));
      values = w.values;
    }

valid-ahead : ValidWaiting (ahead ∷ [])
unfolding pad is_empty
valid-ahead = valid-one (record { laid = refl; clock = record { rising = rising; positive = positive }; keys = one-ascends 5 }) refl
  where
    rising : Ascending (by (λ d. d.actor)) (dot 1 1 ∷ dot 2 1 ∷ [])
    rising = next (only (λ d. ltb 1 d.actor ≡ true) refl) (one-ascends (dot 2 1))

    positive : (d : Dot) → d ∈ (dot 1 1 ∷ dot 2 1 ∷ []) → 0 < d.counter
    positive d i = ⊎_elim (λ (e : d ≡ dot 1 1). rw e (omega arith)) (only (λ x. 0 < x.counter) (omega arith) d) (Memᴰ.cases_cons i)

-- one value stands
one-standing : (x : Value) → Lawful (dots_of x.clock) → NoneBelow (x ∷ [])
one-standing x h v w i j t =
    let e : v ≡ x = Memᴰ.eq_of_singleton i in
    let f : w ≡ x = Memᴰ.eq_of_singleton j in
    apart (sym (ap (yielding false) (sym (order-self h) ∙ (rw (e, f) at t))))

valid-behind : ValidWaiting (behind ∷ [])
unfolding pad is_empty
valid-behind = valid-one (record { laid = refl; clock = lawful 1 (omega arith); keys = one-ascends 5 }) refl

-- end theorems from here on: one for each premise
pub standing-needed : Changed NoneDominated Untouched Uncovered outdated outdated_after
unfolding pad
standing-needed =
    changed (λ h s u n. merge-self h s u n)
    (record { valid = valid-as (lawful 2 (omega arith)) (valid-five 2 _ (omega arith) values) valid-none; limits = computed.outdated-fits })
    (λ e i d k r j. absurd (Memᴰ.not-nil j)) (λ r j. absurd (Memᴰ.not-nil j)) computed.outdated-merged
    (λ e. let z : ◌≡◌ {A = ℕ} 1 2 = ap (λ m. (get_or m.entries.items 0 no_entry).register.len) e in omega arith)
  where
    values : (v : Value) → v ∈ (value (one 1 1) 40 ∷ value (one 1 2) 41 ∷ []) → ValidValue v
    values v i =
        ⊎_elim (λ (e : v ≡ value (one 1 1) 40). rw e (valid-value 1 40 (omega arith))) (only ValidValue (valid-value 2 41 (omega arith)) v)
        (Memᴰ.cases_cons i)

pub untouched-entry-needed : Changed Untouched NoneDominated Uncovered entry_touched entry_touched_after
unfolding pad first_in counter_in covers
untouched-entry-needed =
    changed (λ h u s n. merge-self h s u n)
    (record {
      valid = valid-as (lawful 1 (omega arith)) (valid-five 1 [] (omega arith) (λ v i. absurd (Memᴰ.not-nil i))) valid-ahead;
      limits = computed.entry-fits;
    })
    (only (λ e. NoneBelow (values_in e)) (λ v w i. absurd (Memᴰ.not-nil i))) (only (λ r. covers (one 1 1) (under_of r) ≡ false) refl)
    computed.entry-merged
    (λ e. let z : ◌≡◌ {A = ℕ} 0 1 = ap (λ m. m.entries.len) e in omega arith)

pub untouched-value-needed : Changed Untouched NoneDominated Uncovered value_touched value_touched_after
unfolding pad first_in counter_in covers
untouched-value-needed =
    changed (λ h u s n. merge-self h s u n)
    (record {
      valid = valid-as (lawful 2 (omega arith)) (valid-five 2 _ (omega arith) (only ValidValue (valid-value 1 40 (omega arith)))) valid-ahead;
      limits = computed.value-fits;
    })
    (only (λ e. NoneBelow (values_in e)) (one-standing (value (one 1 1) 40) (lawful 1 (omega arith))))
    (only (λ r. covers (one 1 2) (under_of r) ≡ false) refl) computed.value-merged
    (λ e. let z : ◌≡◌ {A = ℕ} 0 1 = ap (λ m. (get_or m.entries.items 0 no_entry).register.len) e in omega arith)

pub uncovered-needed : Changed Uncovered NoneDominated Untouched overtaken overtaken_after
unfolding pad
uncovered-needed =
    changed (λ h n s u. merge-self h s u n)
    (record {
      valid = valid-as (lawful 1 (omega arith)) (record { rising = nil; each = λ e i. absurd (Memᴰ.not-nil i) }) valid-behind;
      limits = computed.overtaken-fits;
    })
    (λ e i. absurd (Memᴰ.not-nil i)) (λ e i. absurd (Memᴰ.not-nil i)) computed.overtaken-merged
    (λ e. let z : ◌≡◌ {A = ℕ} 0 1 = ap (λ m. m.waiting.len) e in omega arith)
