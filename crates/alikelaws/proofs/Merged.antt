-- A merge leaves every value a source, so T1b holds after merges at will too.
use mathlib.Core.Path.{◌≡◌}
use mathlib.Core.List.{List}
use Prim.Native.Nat.{ℕ}
use Rattle.listlaws.specs.Sift.{sift}
use Rattle.listlaws.specs.Order.{◌∈◌}
use Rattle.listlaws.proofs.Those.{sift-means}
use Rattle.clock.specs.declared.Dot.{Dot}
use Rattle.clock.specs.Dots.{cut_dots, join_dots}
use Rattle.register.specs.declared.Value.{Value}
use Rattle.register.specs.Values.{cut_value, cut_values, merge_values}
use Rattle.register.proofs.Kept.{cut-each, merge-each}
use Rattle.removals.specs.declared.Removal.{Removal}
use Rattle.entries.specs.declared.Entry.{Entry}
use Rattle.entries.specs.Model.{dots_in, values_in}
use Rattle.entries.specs.Entries.{stays, run, cut_alone, keep_dots, merge_both, merge_entries}
use Rattle.entries.specs.Valid.{ValidValue}
use Rattle.removals.specs.Valid.{ValidRemoval}
use Rattle.removals.proofs.ListingClocks.{sup_of, Clocked, clocked-valid}
use Rattle.entries.proofs.Cuts.{Whole, whole-valid}
use Rattle.entries.proofs.Packs.{entries-of, values-in}
use Rattle.entries.proofs.Runs.{run-whole}
use Rattle.entries.proofs.EntriesValid.{merge-entries-each, whole-merged}
use Rattle.map.specs.declared.Map.{Map}
use Rattle.map.specs.declared.Op.{Op}
use Rattle.map.specs.Model.{seen_by, entries_in, waiting_in}
use Rattle.map.specs.Removing.{remove}
use Rattle.map.specs.Merging.{merge}
use Rattle.map.specs.Valid.{Valid}
use Rattle.map.proofs.Kept.{valid-merge}
use Rattle.map.proofs.Removals.{merge-closed}
use Rattle.alikelaws.specs.Source.{Source, ComesFrom, EveryValue, Withdrawn}
use Rattle.alikelaws.specs.OnMaps.{Sourced}
use Rattle.alikelaws.proofs.Sources.{comes-cut, run-each}
use Rattle.alikelaws.proofs.Withdrawing.{removes-within}

-- what a cut leaves to every value
module _ (Q : ℕ → Value → Type 0) (closed : (k : ℕ) (by : List Dot) (v : Value) → ValidValue v → Q k v → Q k (cut_value by v)) where
  abbrev Has : Entry → Type 0
  Has e = (v : Value) → v ∈ values_in e → Q e.key v

  run-has : (ws : List Removal) → Clocked ws → (e : Entry) → Whole e → Has e → Has (run ws e)
  run-has ws f e h g = run-each Q ws f e h (λ v i n. closed e.key (sup_of ws e.key) v (h.values v i) (g v i))

  alone-has : (other : List Dot) (e : Entry) → Whole e → Has e → Has (cut_alone other e)
  unfolding cut_alone
  alone-has other e h g =
      let left = cut_dots other (dots_in e) in
      rw (values-in e.key left (cut_values (cut_dots left other) (values_in e)))
      (cut-each (Q e.key) (cut_dots left other) (values_in e) (λ v i n. closed e.key (cut_dots left other) v (h.values v i) (g v i)))

  both-has : (ours theirs : List Dot) (e f : Entry) → Whole e → Whole f → e.key ≡ f.key → Has e → Has f → Has (merge_both ours theirs e f)
  unfolding merge_both
  both-has ours theirs e f h k q g p =
      let keep = keep_dots ours theirs (dots_in e) (dots_in f) in
      let by = cut_dots keep (join_dots (dots_in e) (dots_in f)) in
      let l = merge_values (values_in e) (values_in f) in
      let valid = merge-each ValidValue (values_in e) (values_in f) h.values k.values in
      rw (values-in e.key keep (cut_values by l))
      (cut-each (Q e.key) by l (λ v i n. closed e.key by v (valid v i)
      (merge-each (Q e.key) (values_in e) (values_in f) g (rw q p) v i)))

  merge-holds : {m n : Map} → Valid m → Valid n → EveryValue Q m → EveryValue Q n → EveryValue Q (merge m n)
  merge-holds {m} {n} h k f g =
      rw (merge-closed h k, entries-of (sift stays (λ e. run (waiting_in m) (run (waiting_in n) e)) mingled))
      (λ z i. let s = sift-means stays (λ e. run (waiting_in m) (run (waiting_in n) e)) mingled i in
      let e = s.source in
      let w = whole e s.stands in
      rw s.changed (run-has (waiting_in m) (clocked-valid h.waiting) (run (waiting_in n) e) (run-whole (waiting_in n) w)
      (run-has (waiting_in n) (clocked-valid k.waiting) e w (has e s.stands))))
    where
      mingled : List Entry
      mingled = merge_entries (seen_by m) (seen_by n) (entries_in m) (entries_in n)

      ours : (e : Entry) → e ∈ entries_in m → Whole e
      ours e i = whole-valid (h.entries.each e i)

      theirs : (e : Entry) → e ∈ entries_in n → Whole e
      theirs e i = whole-valid (k.entries.each e i)

      whole : (e : Entry) → e ∈ merge_entries (seen_by m) (seen_by n) (entries_in m) (entries_in n) → Whole e
      whole = whole-merged (seen_by m) (seen_by n) h.entries.rising k.entries.rising ours theirs

      has : (e : Entry) → e ∈ merge_entries (seen_by m) (seen_by n) (entries_in m) (entries_in n) → Has e
      has = merge-entries-each Has (seen_by m) (seen_by n) h.entries.rising k.entries.rising
          (λ e i t. alone-has (seen_by n) e (ours e i) (f e i)) (λ e i t. alone-has (seen_by m) e (theirs e i) (g e i))
          (λ e x i j q t. both-has (seen_by m) (seen_by n) e x (ours e i) (theirs x j) q (f e i) (g x j))

module _ (first : Map) (ops : List Op) {m n : Map} (h : Valid m) (k : Valid n) (f : Sourced first ops m) (g : Sourced first ops n) where
  merge-sourced : Sourced first ops (merge m n)
  merge-sourced = merge-holds (λ x v. ComesFrom (Source first ops x) v) (λ x by v w s. comes-cut by w s) h k f g

  -- an end theorem: "where that is not done, apply again after every merge each removal that must hold"
  pub merged-removed : {r : Removal} → ValidRemoval r → Withdrawn first ops r (remove (merge m n) r)
  merged-removed q = removes-within first ops (valid-merge h k) q merge-sourced
