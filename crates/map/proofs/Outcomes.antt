-- How the result of each operation on maps within the limits is judged.
use mathlib.Core.Path.{◌≡◌, ap, ◌∙◌}
use mathlib.Core.Bool.{Bool, false}
use mathlib.Core.List.{List, [], ◌∷◌}
use Prim.Native.Nat.{◌≤◌, ◌<◌}
use native.Mathlib.Omega.{arith}
use lib.ListN.{length}
use Rattle.listlaws.specs.First.{some}
use Rattle.listlaws.specs.Fold.{fold}
use Rattle.listlaws.specs.Sift.{sift, those}
use Rattle.listlaws.proofs.Sifts.{length-sift}
use Rattle.listlaws.proofs.Those.{sift-means}
use Rattle.clock.specs.declared.Dot.{Dot}
use Rattle.limits.specs.Limits.{dot_limit, entry_limit, waiting_limit}
use Rattle.clock.specs.Dots.{counter_in, cut_dots, join_dots, add_dot}
use Rattle.clock.proofs.Packs.{cut-length}
use Rattle.clock.proofs.Joins.{lawful-nil, lawful-add}
use Rattle.clock.proofs.Within.{covered-length, covers-nil, covers-adds}
use Rattle.entries.specs.declared.Entry.{Entry}
use Rattle.removals.specs.declared.Removal.{Removal}
use Rattle.entries.specs.declared.Update.{Update}
use Rattle.entries.specs.Model.{dots_in}
use Rattle.entries.specs.Steps.{overfull}
use Rattle.removals.specs.Counted.{overlong}
use Rattle.entries.specs.Entries.{stays, cut_entry, remove_entries, run, entry_at, put_entries, merge_entries}
use Rattle.removals.specs.Waits.{waits, unite_all, reset_waiting}
use Rattle.entries.proofs.ClocksFit.{added-length}
use Rattle.entries.proofs.Packs.{dots-in}
use Rattle.entries.proofs.Puts.{at_every}
use Rattle.entries.proofs.Limits.{entry-fits-cut, runs_fit, runs-length}
use Rattle.map.specs.declared.Map.{Map}
use Rattle.map.specs.Model.{seen_by, entries_in, waiting_in, map_as}
use Rattle.map.specs.Removing.{remove}
use Rattle.map.specs.Updating.{update}
use Rattle.map.specs.Merging.{merge}
use Rattle.map.specs.Resetting.{reset}
use Rattle.map.specs.Judging.{exceeding, judged}
use Rattle.map.specs.Valid.{Within, RemovalWithin, UpdateWithin}
use Rattle.map.proofs.Kept.{under-own, held_after, remove-laid, valid-remove, valid-update, valid-merge, valid-reset}
use Rattle.map.proofs.Preserved.{each-remove, each-update, each-merge, each-reset}
use Rattle.map.proofs.Small.{small-rules, small-taken}
use Rattle.map.proofs.Removals.{update-closed, merge-closed}
use Rattle.map.proofs.Accepts.{fits-means, not-over}
use Rattle.map.proofs.Verdicts.{outcome, judged-as, small-within, none-overfull, those-few, those-short}

-- a removal breaks no limit but those on what waits
module _ {m : Map} {r : Removal} (i : Within m) (j : RemovalWithin r) where
  removed-few : length (remove_entries r (entries_in m)) ≤ entry_limit
  unfolding fold
  removed-few = omega (arith, runs-length (r ∷ []) (entries_in m), (fits-means m i.limits).count)

  removed-full : some overfull (remove_entries r (entries_in m)) ≡ false
  unfolding fold
  removed-full = none-overfull (remove_entries r (entries_in m)) (λ e k. (runs_fit (r ∷ []) (entries_in m) (fits-means m i.limits).entries e k).count)

  pub remove-outcome : (w : List Removal) → held_after (seen_by m) (waiting_in m) r ≡ w → (d e : Bool) → exceeding waiting_limit w ≡ d
      → some overlong w ≡ e
      → judged (remove m r) ≡ outcome false false false d e (map_as (seen_by m) (remove_entries r (entries_in m)) w)
  remove-outcome w h d e p q =
      let x : remove m r ≡ map_as (seen_by m) (remove_entries r (entries_in m)) w = remove-laid (under-own i.valid) r
      ∙ ap (map_as (seen_by m) (remove_entries r (entries_in m))) h in
      ap judged x
      ∙ judged-as (seen_by m) (remove_entries r (entries_in m)) w (rw x at (valid-remove i.valid j.valid))
      (rw x at (each-remove small-rules (under-own i.valid) (small-within i) j.valid j.dots))
      false false false d e (not-over dot_limit (seen_by m) (fits-means m i.limits).clock)
      (not-over entry_limit (remove_entries r (entries_in m)) removed-few) removed-full p q

-- an update breaks the limit on dots, entries or values
module _ {m : Map} {u : Update} (i : Within m) (j : UpdateWithin u) (new : counter_in (seen_by m) u.dot.actor < u.dot.counter) where
  abbrev pub grown_clock : List Dot
  grown_clock = add_dot (seen_by m) u.dot

  abbrev pub grown_entries : List Entry
  grown_entries = sift stays (run (waiting_in m)) (put_entries u (entries_in m))

  pub update-outcome : (a b d : Bool) → exceeding dot_limit grown_clock ≡ a → exceeding entry_limit grown_entries ≡ b → some overfull grown_entries
      ≡ d
      → judged (update m u) ≡ outcome a b d false false (map_as grown_clock grown_entries (those (waits grown_clock) (waiting_in m)))
  update-outcome a b d p q r =
      let x = update-closed u i.valid new in
      ap judged x
      ∙ judged-as grown_clock grown_entries (those (waits grown_clock) (waiting_in m)) (rw x at (valid-update i.valid j.valid))
      (rw x at (each-update small-rules i.valid (small-within i) j.valid (small-taken u j.dots)))
      a b d false false p q r (not-over waiting_limit (those (waits grown_clock) (waiting_in m)) (those-few i (waits grown_clock)))
      (those-short i (waits grown_clock))

  -- the update's entry takes the dot without breaking the limit that the map's clock keeps
  pub put-fits : length grown_clock ≤ dot_limit → length (add_dot (dots_in (entry_at u.key (entries_in m))) u.dot) ≤ dot_limit
  put-fits h =
      at_every (λ e. length (add_dot (dots_in e) u.dot) ≤ dot_limit) u.key (entries_in m)
      (λ e k q. omega (arith, added-length i.valid.clock (i.valid.entries.each e k) u.dot))
      (rw (dots-in u.key [] []) (omega (
        arith,
        covered-length (lawful-add lawful-nil u.dot) (lawful-add i.valid.clock u.dot)
            (covers-adds i.valid.clock lawful-nil (covers-nil (seen_by m)) u.dot),
      )))

-- a merge can break any
module _ {m n : Map} (i : Within m) (j : Within n) where
  abbrev pub joined_clock : List Dot
  joined_clock = join_dots (seen_by m) (seen_by n)

  abbrev pub joined_entries : List Entry
  joined_entries = sift stays (λ e. run (waiting_in m) (run (waiting_in n) e)) (merge_entries (seen_by m) (seen_by n) (entries_in m) (entries_in n))

  abbrev pub joined_waiting : List Removal
  joined_waiting = unite_all (those (waits joined_clock) (waiting_in m)) (those (waits joined_clock) (waiting_in n))

  pub merge-outcome : (a b d e f : Bool) → exceeding dot_limit joined_clock ≡ a → exceeding entry_limit joined_entries ≡ b
      → some overfull joined_entries ≡ d → exceeding waiting_limit joined_waiting ≡ e → some overlong joined_waiting ≡ f
      → judged (merge m n) ≡ outcome a b d e f (map_as joined_clock joined_entries joined_waiting)
  merge-outcome a b d e f p q r s t =
      let x = merge-closed i.valid j.valid in
      ap judged x
      ∙ judged-as joined_clock joined_entries joined_waiting (rw x at (valid-merge i.valid j.valid))
      (rw x at (each-merge small-rules i.valid j.valid (small-within i) (small-within j))) a b d e f p q r s t

-- a reset breaks the limit on the keys of one
module _ {m : Map} (i : Within m) (c : List Dot) where
  reset-full : some overfull (sift stays (cut_entry c) (entries_in m)) ≡ false
  reset-full =
      none-overfull (sift stays (cut_entry c) (entries_in m)) (λ e k.
      let s = sift-means stays (cut_entry c) (entries_in m) k in rw s.changed
      (entry-fits-cut c ((fits-means m i.limits).entries s.source s.stands)).count)

  pub reset-outcome : length (reset_waiting c (waiting_in m)) ≤ waiting_limit → (f : Bool) → some overlong (reset_waiting c (waiting_in m)) ≡ f
      → judged (reset m c) ≡ outcome false false false false f (map_as (cut_dots c (seen_by m)) (sift stays (cut_entry c) (entries_in m))
      (reset_waiting c (waiting_in m)))
  unfolding reset
  reset-outcome h f t =
      let g = fits-means m i.limits in
      judged-as (cut_dots c (seen_by m)) (sift stays (cut_entry c) (entries_in m)) (reset_waiting c (waiting_in m)) (valid-reset i.valid c)
      (each-reset small-rules i.valid (small-within i) c)
      false false false false f
      (not-over dot_limit (cut_dots c (seen_by m)) (omega (arith, cut-length c (seen_by m), g.clock)))
      (not-over entry_limit (sift stays (cut_entry c) (entries_in m)) (omega (arith, length-sift stays (cut_entry c) (entries_in m), g.count)))
      reset-full (not-over waiting_limit (reset_waiting c (waiting_in m)) h) t
