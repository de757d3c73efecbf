-- 01 "Map", what becomes of a map: stated once, over what becomes of its entries and over how a map is stored.
use Rattle.std.specs.Prelude.{cond, List, [], leb}
use Rattle.listlaws.specs.Fold.{fold}
use Rattle.clock.specs.declared.Dot.{Dot}
use Rattle.clock.specs.Dots.{counter_in, cut_dots, join_dots, add_dot}
use Rattle.removals.specs.declared.Removal.{Removal}
use Rattle.removals.specs.Waits.{waits, unite_into, reset_waiting}

-- how a map is stored: "A clock, entries by key, waiting removals", and each as a list
pub record StoredMap (E C L W M : Type 0) : Type 0 where
  pub clock : M → C
  pub entries : M → L
  pub waiting : M → W
  pub whole : C → L → W → M
  pub dots_out : C → List Dot
  pub dots_in : List Dot → C
  pub entries_out : L → List E
  pub entries_in : List E → L
  pub waiting_out : W → List Removal
  pub waiting_in : List Removal → W

module _ {E C L W M : Type 0} (s : StoredMap E C L W M) where
  abbrev pub seen_out : M → List Dot
  seen_out m = s.dots_out (s.clock m)

  -- "Removal of keys K under C: .. If the map clock is less than C or concurrent, the keys are united into the waiting removal with clock C"
  abbrev pub remove_by : (Removal → List E → List E) → M → Removal → M
  remove_by removed m r =
      s.whole (s.clock m) (s.entries_in (removed r (s.entries_out (s.entries m))))
      (cond (waits (seen_out m) r) (s.waiting_in (unite_into (s.waiting_out (s.waiting m)) r)) (s.waiting m))

  -- "apply every waiting removal afresh"
  abbrev pub afresh_by : (M → Removal → M) → M → M
  afresh_by remove m = fold remove (s.whole (s.clock m) (s.entries m) (s.waiting_in [])) (s.waiting_out (s.waiting m))

  -- "if the map clock's counter for the actor is at or above the dot's, nothing changes. Else add the dot to the entry, apply the put, add the dot
  -- to the map clock, then apply every waiting removal afresh"
  abbrev pub update_by : (M → M) → (List E → List E) → M → Dot → M
  update_by afresh put m d =
      cond (leb d.counter (counter_in (seen_out m) d.actor)) m
      (afresh (s.whole (s.dots_in (add_dot (seen_out m) d)) (s.entries_in (put (s.entries_out (s.entries m)))) (s.waiting m)))

  -- "Merge then applies their waiting removals under our old clock, joins the clocks, and applies all waiting removals afresh."
  abbrev pub merge_by : (M → Removal → M) → (M → M) → (List Dot → List Dot → List E → List E → List E) → M → M → M
  merge_by remove afresh merged m n =
      let entries = s.entries_in (merged (seen_out m) (seen_out n) (s.entries_out (s.entries m)) (s.entries_out (s.entries n))) in
      let under = fold remove (s.whole (s.clock m) entries (s.waiting m)) (s.waiting_out (s.waiting n)) in
      afresh (s.whole (s.dots_in (join_dots (seen_out m) (seen_out n))) (s.entries under) (s.waiting under))

  -- "`reset_remove` by C: cut entry clocks, registers, waiting clocks and map clock; drop entries and waiting removals whose clocks are emptied"
  abbrev pub reset_by : (List Dot → List E → List E) → M → List Dot → M
  reset_by cut m c =
      s.whole (s.dots_in (cut_dots c (seen_out m))) (s.entries_in (cut c (s.entries_out (s.entries m))))
      (s.waiting_in (reset_waiting c (s.waiting_out (s.waiting m))))
