-- Level 1 is the sled in what is asked of a map: its limits' number, both validations, and whether it is valid. With the rules', the end theorem.
use mathlib.Core.Path.{◌≡◌, refl, ap, sym, ◌∙◌}
use mathlib.Core.Bool.{Bool, true, false, cond, ◌||◌}
use mathlib.Core.List.Memᴰ
use mathlib.Core.List.{List, [], ◌∷◌, map}
use Prim.Native.Nat.{ℕ, ◌+◌}
use native.Mathlib.Omega.{arith}
use lib.Dec.{ltb, eqb}
use lib.ListN.{length}
use Rattle.limits.specs.Limits.{dot_limit, entry_limit, value_limit, waiting_limit, key_limit}
use Rattle.listlaws.specs.First.{first_in, some}
use Rattle.listlaws.specs.Fold.{total_of}
use Rattle.listlaws.specs.Order.{Ascending, nil, next, by}
use Rattle.listlaws.proofs.Somes.{false-some}
use Rattle.clock.specs.declared.Dot.{Dot}
use Rattle.clock.specs.Dots.{dots_of, order_of}
use Rattle.register.specs.declared.Value.{Value}
use Rattle.removals.specs.Model.{under_of, listed_in}
use Rattle.entries.specs.declared.Entry.{Entry}
use Rattle.entries.specs.declared.Update.{Update}
use Rattle.entries.specs.Model.{dots_in}
use Rattle.entries.specs.Entries.{registers}
use Rattle.map.specs.declared.Map.{Map}
use Rattle.map.specs.Model.{seen_by, entries_in, waiting_in}
use Rattle.map.specs.Judging.{exceeding, over_dots, over_entries, over_values, over_waiting, over_keys, over_number}
use Rattle.map.specs.Valid.{Valid}
use Rattle.asking.specs.declared.CvRDTValidation.{CvRDTValidation}
use Rattle.asking.specs.declared.CvRDTValidation.TheVariants.{Once}
use Rattle.asking.specs.declared.CmRDTValidation.TheVariants.{Fits}
use Rattle.asking.specs.Asking.{clock_at, following, validate_update, or_else, first_spent, spent_under, spent_by, validate_merge}
use Rattle.levels.specs.MapOver.{EntryOf, up, entry_at_of}
use Rattle.levels.specs.Level.{rules_at}
use Rattle.levels.specs.Good.{GoodEntry, GoodAt, GoodValues}
use Rattle.levels.specs.OverLimits.{sled_limits, over_dots_at, entries_within, over_values_at, waiting_within, over_keys_at, over_number_at}
use Rattle.levels.specs.Validating.{order_at, is_concurrent, spent_over, spent_at}
use Rattle.levels.specs.Sled.{opened, opened_map, SledIsLevelOne}
use Rattle.levels.proofs.Through.{first-map, total-map}
use Rattle.levels.proofs.OneLevel.{open-remove, open-afresh, open-update, open-merge, open-reset}

-- some entry, as lists and as it is stored
some-opened : (p : EntryOf (List Value) → Bool) (l : List Entry) → some p (map opened l) ≡ some (λ e. p (opened e)) l
some-opened p l = first-map opened p (λ e. true) false l

ones : {A : Type 0} (l : List A) → total_of (λ e. 1 + 0) l ≡ length l
unfolding total_of
ones [] = refl
ones (x ∷ l) = omega (arith, ones l)

noughts : {A : Type 0} (l : List A) → total_of (λ e. 0) l ≡ 0
unfolding total_of
noughts [] = refl
noughts (x ∷ l) = omega (arith, noughts l)

or-false : (b : Bool) → b || false ≡ b
or-false true = refl
or-false false = refl

module _ (m : Map) where
  dots-same : over_dots_at dot_limit 1 (opened_map m) ≡ over_dots m
  unfolding over_dots_at over_dots
  dots-same =
      ap (λ b. exceeding dot_limit (seen_by m) || (b || some (λ r. exceeding dot_limit (under_of r)) (waiting_in m)))
      (some-opened (λ e. exceeding dot_limit e.dots || some (λ v. exceeding dot_limit (dots_of v.clock)) e.val) (entries_in m))

  entries-same : entries_within 1 (opened_map m) ≡ length (entries_in m)
  unfolding entries_within
  entries-same = total-map opened (λ e. 1 + 0) (entries_in m) ∙ ones (entries_in m)

  values_same : over_values_at value_limit 1 (opened_map m) ≡ over_values m
  unfolding over_values_at over_values
  values_same = some-opened (λ e. exceeding value_limit e.val) (entries_in m)

  waiting-same : waiting_within 1 (opened_map m) ≡ length (waiting_in m)
  unfolding waiting_within
  waiting-same = omega (arith, noughts (map opened (entries_in m)))

  keys-same : over_keys_at key_limit 1 (opened_map m) ≡ over_keys m
  unfolding over_keys_at over_keys
  keys-same =
      ap (λ b. some (λ r. exceeding key_limit (listed_in r)) (waiting_in m) || b) (false-some (λ e. false) (map opened (entries_in m)) (λ e i. refl))
      ∙ or-false _

  open-over : over_number_at sled_limits 1 (opened_map m) ≡ over_number m
  unfolding over_number_at over_number over_entries over_waiting
  open-over = λ i.
      cond (dots-same i) 4 (cond (ltb entry_limit (entries-same i)) 5
      (cond (values_same i) 6 (cond (ltb waiting_limit (waiting-same i)) 7 (cond (keys-same i) 8 0))))

-- the clock of a key's entry
clock-same : (k : ℕ) (l : List Entry) → (entry_at_of registers k (map opened l)).dots ≡ first_in (λ e. eqb e.key k) dots_in [] l
unfolding entry_at_of first_in
clock-same k [] = refl
clock-same k (x ∷ l) = go (eqb x.key k) (entry_at_of registers k (map opened l)) (first_in (λ e. eqb e.key k) dots_in [] l) (clock-same k l)
  where
    go : (b : Bool) (e : EntryOf (List Value)) (c : List Dot) → e.dots ≡ c → (cond b (opened x) e).dots ≡ cond b (dots_in x) c
    go true e c q = refl
    go false e c q = q

open_order : (m : Map) (u : Update) → order_at 1 (opened_map m) (up u.dot u.key u.put) ≡ validate_update m u
unfolding order_at validate_update clock_at rules_at
open_order m u = ap (λ c. following (seen_by m) u.dot (following c u.dot Fits)) (clock-same u.key (entries_in m))

spent-opened : (f : EntryOf (List Value) → CvRDTValidation) (l : List Entry) → first_spent f (map opened l) ≡ first_spent (λ e. f (opened e)) l
unfolding first_spent
spent-opened f [] = refl
spent-opened f (x ∷ l) = ap (or_else (f (opened x))) (spent-opened f l)

-- a register has no dot that is spent twice
spent-same : (e f : Entry) → spent_over (spent_at 0) (opened e) (opened f) ≡ spent_by e f
unfolding spent_at spent_under
spent-same e f = go (eqb e.key f.key) (is_concurrent (order_of (dots_in e) (dots_in f))) _
  where
    go : (a b : Bool) (x : CvRDTValidation) → cond a (cond b Once Once) (cond a Once x) ≡ cond a Once x
    go true true x = refl
    go true false x = refl
    go false b x = refl

open-spent : (m n : Map) → spent_at 1 (opened_map m) (opened_map n) ≡ validate_merge m n
unfolding spent_at validate_merge
open-spent m n =
    spent-opened (λ e. first_spent (spent_over (spent_at 0) e) (map opened (entries_in n))) (entries_in m)
    ∙ (λ i. first_spent (λ e. spent-opened (spent_over (spent_at 0) (opened e)) (entries_in n) i) (entries_in m))
    ∙ (λ i. first_spent (λ e. first_spent (λ f. spent-same e f i) (entries_in n)) (entries_in m))

-- valid as it is stored is valid as lists
ascends-opened : {l : List Entry} → Ascending (by (λ (e : Entry). e.key)) l → Ascending (by (λ (e : EntryOf (List Value)). e.key)) (map opened l)
ascends-opened nil = nil
ascends-opened (next {x = x} {l = l} f a) =
    next {x = opened x} (λ y i. let r = Memᴰ.of_map opened l i in let e : y ≡ opened r.0 = sym r.2 in rw e (f r.0 r.1))
    (ascends-opened a)

open-valid : (m : Map) → Valid m → GoodAt 1 (opened_map m)
open-valid m h = record {
  clock = h.clock;
  rising = ascends-opened h.entries.rising;
  each = λ z i.
      let r = Memᴰ.of_map opened (entries_in m) i in
      let e : z ≡ opened r.0 = sym r.2 in
      let v = h.entries.each r.0 r.1 in
      let good : GoodEntry GoodValues (seen_by m)
      (opened r.0) = record { clock = v.clock; some = v.some; covered = v.covered; val = v.values } in
      rw e good;
  waiting = h.waiting;
}

-- the end theorem
pub level-one : SledIsLevelOne
unfolding rules_at
level-one = record {
  removed = open-remove;
  applied-afresh = open-afresh;
  updated = open-update;
  merged = open-merge;
  cut = open-reset;
  over = open-over;
  order = open_order;
  spent = open-spent;
  valid = open-valid;
}
