-- What holds of every value of a map, of its key and itself, after a removal and after an unseen update: by the cut that each is.
use mathlib.Core.Path.{◌≡◌, refl, ap, ◌∙◌}
use mathlib.Core.Bool.{false}
use mathlib.Core.List.Memᴰ
use mathlib.Core.List.{List, [], ◌∷◌}
use Prim.Native.Nat.{ℕ, ◌<◌}
use Rattle.listlaws.specs.Fold.{fold}
use Rattle.listlaws.specs.Sift.{sift}
use Rattle.listlaws.specs.Order.{◌∈◌}
use Rattle.listlaws.proofs.Those.{sift-means}
use Rattle.clock.specs.declared.Dot.{Dot}
use Rattle.clock.specs.Dots.{dots_of, is_empty, counter_in, cut_dots, add_dot}
use Rattle.clock.proofs.Covers.{covers-trans, covers-cut}
use Rattle.register.specs.declared.Content.{Content}
use Rattle.register.specs.declared.Value.{Value}
use Rattle.register.specs.Values.{cut_value, put_values}
use Rattle.register.proofs.Cuts.{dots-cut}
use Rattle.register.proofs.Kept.{cut-each, put-each}
use Rattle.removals.specs.declared.Removal.{Removal}
use Rattle.entries.specs.declared.Entry.{Entry}
use Rattle.entries.specs.declared.Update.{Update}
use Rattle.entries.specs.Model.{dots_in, values_in, entry_as}
use Rattle.entries.specs.Entries.{stays, run, put_entry, put_entries, remove_entries}
use Rattle.entries.specs.Valid.{ValidValue}
use Rattle.removals.specs.Valid.{ValidRemoval}
use Rattle.removals.proofs.ListingClocks.{sup_of, Clocked, clocked-valid}
use Rattle.entries.proofs.Cuts.{Whole, whole-valid, cut-key}
use Rattle.entries.proofs.Packs.{entries-of, values-in}
use Rattle.entries.proofs.Puts.{at_every, put-every}
use Rattle.entries.proofs.Runs.{run-values, run-closed}
use Rattle.entries.proofs.EntriesValid
use Rattle.map.specs.declared.Map.{Map}
use Rattle.map.specs.Model.{seen_by, entries_in, waiting_in}
use Rattle.map.specs.Removing.{remove}
use Rattle.map.specs.Updating.{update}
use Rattle.map.specs.Valid.{Valid, ValidUpdate}
use Rattle.map.proofs.Kept.{under-own, remove-laid, valid-put}
use Rattle.map.proofs.Removals.{update-closed}
use Rattle.readiness.specs.Ready.{put_of}
use Rattle.alikelaws.specs.Source.{ComesFrom, EveryValue}

-- a cut leaves a value its source
pub comes-cut : {S : Content → List Dot → Type 0} (by : List Dot) {v : Value} → ValidValue v → ComesFrom S v → ComesFrom S (cut_value by v)
comes-cut by {v} h s = record {
  under = s.under;
  source = s.source;
  within = rw (dots-cut by v) (covers-trans s.under (dots_of v.clock) (cut_dots by (dots_of v.clock)) s.within (covers-cut by h.clock));
}

-- what is left of a value under removals run on it
abbrev pub Leaves : (ℕ → Value → Type 0) → List Removal → ℕ → Value → Type 0
Leaves Q ws k v = is_empty (cut_dots (sup_of ws k) (dots_of v.clock)) ≡ false → Q k (cut_value (sup_of ws k) v)

module _ (Q : ℕ → Value → Type 0) (ws : List Removal) (f : Clocked ws) where
  -- removals run on entries
  pub run-each : (e : Entry) → Whole e → ((v : Value) → v ∈ values_in e → Leaves Q ws e.key v) → (v : Value) → v ∈ values_in (run ws e)
      → Q (run ws e).key v
  run-each e h g v j =
      rw (ap (λ x. x.key) (run-closed ws f h) ∙ cut-key (sup_of ws e.key) e)
      (cut-each (Q e.key) (sup_of ws e.key) (values_in e) g v (rw (run-values ws f h) at j))

  run_holds : (l : List Entry) → ((e : Entry) → e ∈ l → Whole e) → ((e : Entry) → e ∈ l → (v : Value) → v ∈ values_in e → Leaves Q ws e.key v)
      → (z : Entry) → z ∈ sift stays (run ws) l → (v : Value) → v ∈ values_in z → Q z.key v
  run_holds l h g z i =
      let s = sift-means stays (run ws) l i in
      rw s.changed (run-each s.source (h s.source s.stands) (g s.source s.stands))

pub clocked-one : {r : Removal} → ValidRemoval r → Clocked (r ∷ [])
clocked-one {r} k w i = let same : w ≡ r = Memᴰ.eq_of_singleton i in rw same k.clock

module _ (Q : ℕ → Value → Type 0) {m : Map} (h : Valid m) where
  -- a removal
  pub remove-holds : {r : Removal} → ValidRemoval r → EveryValue (Leaves Q (r ∷ [])) m → EveryValue Q (remove m r)
  unfolding fold remove_entries
  remove-holds {r} k g =
      rw (remove-laid (under-own h) r, entries-of (remove_entries r (entries_in m)))
      (run_holds Q (r ∷ []) (clocked-one k) (entries_in m) (λ e i. whole-valid (h.entries.each e i)) g)

  -- an unseen update, which applies every waiting removal afresh
  pub update-holds : {u : Update} → ValidUpdate u → counter_in (seen_by m) u.dot.actor < u.dot.counter
      → EveryValue (Leaves Q (waiting_in m)) m → (is_empty (put_of u) ≡ false → Leaves Q (waiting_in m) u.key u.put) → EveryValue Q (update m u)
  unfolding put_entry
  update-holds {u} k new g p =
      rw (update-closed u h new, entries-of (sift stays (run (waiting_in m)) (put_entries u (entries_in m))))
      (run_holds Q (waiting_in m) (clocked-valid h.waiting) (put_entries u (entries_in m)) whole values)
    where
      whole : (e : Entry) → e ∈ put_entries u (entries_in m) → Whole e
      whole e i =
          whole-valid ((EntriesValid.valid-puts h.entries h.clock u k.dot (λ n. valid-put k n)).each e i)

      -- at the update's key
      at : (e : Entry) → ((v : Value) → v ∈ values_in e → Leaves Q (waiting_in m) e.key v) → e.key ≡ u.key
          → (v : Value) → v ∈ values_in (put_entry u e) → Leaves Q (waiting_in m) (put_entry u e).key v
      at e old q =
          rw (values-in e.key (add_dot (dots_in e) u.dot) (put_values (values_in e) u.put))
          (put-each (Leaves Q (waiting_in m) e.key) (values_in e) u.put old (λ n. rw q (p n)))

      values : (e : Entry) → e ∈ put_entries u (entries_in m) → (v : Value) → v ∈ values_in e → Leaves Q (waiting_in m) e.key v
      values =
          put-every (λ e. (v : Value) → v ∈ values_in e → Leaves Q (waiting_in m) e.key v) u (entries_in m) g
          (at_every (λ e. (v : Value) → v ∈ values_in (put_entry u e) → Leaves Q (waiting_in m) (put_entry u e).key v) u.key (entries_in m)
          (λ e i q. at e (g e i) q)
          (at (entry_as u.key [] []) (λ v j. absurd (Memᴰ.not-nil (rw (values-in u.key [] []) at j))) refl))
