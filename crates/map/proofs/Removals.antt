-- Runs of removals on a map, and the closed forms of applying the waiting ones afresh, of an update and of a merge.
use mathlib.Core.Path.{◌≡◌, refl, ap, ap₂, sym, ◌∙◌}
use mathlib.Core.Bool.{Bool, true, false, not, ◌&&◌, cond}
use mathlib.Core.List.{List, [], ◌∷◌}
use Prim.Native.Nat.{◌<◌}
use native.Mathlib.Omega.{arith}
use borrow.Author.Tests.{not-true, lt-leb}
use Rattle.listlaws.specs.Sift.{sift, those}
use Rattle.listlaws.specs.Fold.{fold}
use Rattle.listlaws.specs.Order.{◌∈◌, Ascending}
use Rattle.listlaws.proofs.Those.{those-means, those-ascends, those-same, those-all, those-those}
use Rattle.listlaws.proofs.Twice.{sift-same}
use Rattle.clock.specs.declared.Dot.{Dot}
use Rattle.clock.specs.Dots.{clock_of, counter_in, covers, join_dots, add_dot}
use Rattle.clock.proofs.Packs.{dots-of}
use Rattle.clock.proofs.Covers.{covers-trans, covers-join-left}
use Rattle.entries.specs.declared.Entry.{Entry}
use Rattle.removals.specs.declared.Removal.{Removal}
use Rattle.entries.specs.declared.Update.{Update}
use Rattle.entries.specs.Model.{entries_as}
use Rattle.removals.specs.Model.{waiting_as, under_of}
use Rattle.entries.specs.Entries.{stays, remove_entries, put_entries, merge_entries, run}
use Rattle.removals.specs.Waits.{waits, removal_before, unite_all, unite_into}
use Rattle.removals.specs.Valid.{ValidWaiting}
use Rattle.entries.proofs.Packs.{entries-of}
use Rattle.removals.proofs.Packs.{waiting-of}
use Rattle.entries.proofs.Cuts.{Whole, whole-valid}
use Rattle.entries.proofs.Runs.{runs, run-trade, run-whole, removes-run, removes-changed, run-unite, run-some}
use Rattle.removals.proofs.Waits.{waits-covers, waits-same}
use Rattle.removals.proofs.Uniting.{unite-behind, unite-afresh, unite-those, unite-ascends}
use Rattle.removals.proofs.WaitingValid.{those-valid}
use Rattle.removals.proofs.ListingClocks.{clocked-valid}
use Rattle.entries.proofs.Puts.{put-stays}
use Rattle.entries.proofs.MergeLeaves.{merge-stays}
use Rattle.entries.proofs.EntriesValid.{whole-merged}
use Rattle.map.specs.declared.Map.{Map}
use Rattle.map.specs.Model.{seen_by, entries_in, waiting_in, map_as}
use Rattle.map.specs.Removing.{remove, afresh}
use Rattle.map.specs.Updating.{update}
use Rattle.map.specs.Merging.{merge}
use Rattle.map.specs.Valid.{Valid}

-- one removal
pub remove-as : (c : List Dot) (l : List Entry) (w : List Removal) (r : Removal)
    → remove (map_as c l w) r ≡ map_as c (remove_entries r l) (cond (waits c r) (unite_into w r) w)
unfolding remove
remove-as c l w r = rw (dots-of {c = clock_of c} c refl, entries-of l, waiting-of w) (go (waits c r))
  where
    go : (b : Bool) → ◌≡◌ {A = Map}
        (record { clock = clock_of c; entries = entries_as (remove_entries r l); waiting = cond b (waiting_as (unite_into w r)) (waiting_as w) })
        (map_as c (remove_entries r l) (cond b (unite_into w r) w))
    go true = refl
    go false = refl

-- a run of removals
pub removes : (ws : List Removal) (c : List Dot) (l : List Entry) (w : List Removal)
    → fold remove (map_as c l w) ws ≡ map_as c (runs ws l) (fold unite_into w (those (waits c) ws))
unfolding fold sift
removes [] c l w = refl
removes (r ∷ ws) c l w = ap (λ m. fold remove m ws) (remove-as c l w r) ∙ removes ws c (remove_entries r l) (cond (waits c r) (unite_into w r) w)
    ∙ go (waits c r)
  where
    go : (b : Bool) → map_as c (runs ws (remove_entries r l)) (fold unite_into (cond b (unite_into w r) w) (those (waits c) ws)) ≡ map_as c
        (runs ws (remove_entries r l)) (fold unite_into w (cond b (r ∷ those (waits c) ws) (those (waits c) ws)))
    go true = refl
    go false = refl

-- the waiting removals, afresh
pub afresh-as : (c : List Dot) (l : List Entry) {w : List Removal} → Ascending removal_before w
    → afresh (map_as c l w) ≡ map_as c (runs w l) (those (waits c) w)
unfolding afresh
afresh-as c l {w} a =
    ap (fold remove (map_as c l [])) (waiting-of w) ∙ removes w c l []
    ∙ ap (map_as c (runs w l)) (unite-afresh (those-ascends (waits c) a))

-- behind a change of all entries
pub afresh-closed : (c : List Dot) (f : Entry → Entry) (l : List Entry) {w : List Removal} → Ascending removal_before w
    → afresh (map_as c (sift stays f l) w) ≡ map_as c (sift stays (λ e. run w (f e)) l) (those (waits c) w)
afresh-closed c f l {w} a =
    afresh-as c (sift stays f l) a ∙ ap (λ s. map_as c s (those (waits c) w)) (removes-changed w f l)

-- the entries of a valid map are not empty
pub entries-stay : {m : Map} → Valid m → those stays (entries_in m) ≡ entries_in m
entries-stay {m} h = those-all stays (entries_in m) (λ e i. ap not (h.entries.each e i).some)

pub update-closed : {m : Map} (u : Update) → Valid m → counter_in (seen_by m) u.dot.actor < u.dot.counter
    → update m u ≡ map_as (add_dot (seen_by m) u.dot) (sift stays (run (waiting_in m)) (put_entries u (entries_in m)))
    (those (waits (add_dot (seen_by m) u.dot)) (waiting_in m))
unfolding update
update-closed {m} u h p =
    let c = add_dot (seen_by m) u.dot in
    let l = put_entries u (entries_in m) in
    let e = put-stays u (entries_in m) (omega arith) (λ x i. (h.entries.each x i).clock) (λ x i. (h.entries.each x i).some) in
    rw (lt-leb u.dot.counter (counter_in (seen_by m) u.dot.actor) p)
    (ap₂ (λ s w. afresh (record { clock = clock_of c; entries = entries_as s; waiting = w })) (sym e) (ap (λ x. x.waiting) h.laid)
    ∙ afresh-closed c (λ x. x) l h.waiting.rising)

-- what waits under a clock waits under a smaller one
waits-less : (c d : List Dot) (r : Removal) → covers d c ≡ true → waits c r && waits d r ≡ waits d r
waits-less c d r t = rw (waits-covers c r, waits-covers d r) (go (covers c (under_of r)) refl)
  where
    go : (b : Bool) → covers c (under_of r) ≡ b → not b && not (covers d (under_of r)) ≡ not (covers d (under_of r))
    go true u = ap not (sym (covers-trans d c (under_of r) t u))
    go false u = refl

-- what waits under a clock is not covered by it
uncovered : (c : List Dot) (w : List Removal) (r : Removal) → r ∈ those (waits c) w → covers c (under_of r) ≡ false
uncovered c w r i = not-true (covers c (under_of r)) (sym (waits-covers c r) ∙ (those-means (waits c) w i).1)

module _ {m n : Map} (h : Valid m) (k : Valid n) where
  -- the clock that the merged map has seen
  abbrev joined : List Dot
  joined = join_dots (seen_by m) (seen_by n)

  -- those of theirs that wait under our old clock
  abbrev theirs : List Removal
  theirs = those (waits (seen_by m)) (waiting_in n)

  abbrev mingled : List Entry
  mingled = merge_entries (seen_by m) (seen_by n) (entries_in m) (entries_in n)

  theirs-valid : ValidWaiting theirs
  theirs-valid = those-valid (waits (seen_by m)) k.waiting

  -- their waiting removals under our old clock
  under : fold remove (record { clock = m.clock; entries = entries_as mingled; waiting = m.waiting }) (waiting_in n) ≡ map_as (seen_by m)
      (sift stays (run (waiting_in n)) mingled) (unite_all (waiting_in m) theirs)
  under =
      (λ i. fold remove (record { clock = (h.laid i).clock; entries = entries_as mingled; waiting = (h.laid i).waiting }) (waiting_in n))
      ∙ removes (waiting_in n) (seen_by m) mingled (waiting_in m)
      ∙ ap₂ (map_as (seen_by m)) (ap (runs (waiting_in n)) (sym (merge-stays (seen_by m) (seen_by n) (entries_in m) (entries_in n)))
      ∙ removes-run (waiting_in n) mingled) (unite-behind (waiting_in m) theirs-valid.rising)

  -- ours then, with those of theirs that joined them
  entries-closed : sift stays (λ e. run (unite_all (waiting_in m) theirs) (run (waiting_in n) e)) mingled ≡ sift stays
      (λ e. run (waiting_in m) (run (waiting_in n) e)) mingled
  entries-closed = sift-same stays _ _ mingled
      (λ e i. each e (whole-merged (seen_by m) (seen_by n) h.entries.rising k.entries.rising (λ x j. whole-valid (h.entries.each x j))
      (λ x j. whole-valid (k.entries.each x j)) e i))
    where
      each : (e : Entry) → Whole e → run (unite_all (waiting_in m) theirs) (run (waiting_in n) e) ≡ run (waiting_in m) (run (waiting_in n) e)
      each e q =
          run-unite h.waiting theirs-valid (run-whole (waiting_in n) q)
          ∙ run-trade theirs (waiting_in m) (run (waiting_in n) e)
          ∙ ap (run (waiting_in m)) (run-some (waits (seen_by m)) (clocked-valid k.waiting) q)

  -- what our old clock covers the joined clock covers
  waiting-closed : those (waits joined) (unite_all (waiting_in m) theirs) ≡ unite_all (those (waits joined) (waiting_in m))
      (those (waits joined) (waiting_in n))
  waiting-closed =
      unite-those h.waiting.rising theirs-valid.rising (waits joined) (λ x y e. waits-same joined x y e)
      ∙ ap (unite_all (those (waits joined) (waiting_in m)))
      (those-those (waits joined) (waits (seen_by m)) (waiting_in n)
      ∙ those-same _ _ (waiting_in n) (λ r i. waits-less (seen_by m) joined r (covers-join-left h.clock k.clock)))

  pub merge-closed : merge m n ≡ map_as (join_dots (seen_by m) (seen_by n)) (sift stays (λ e. run (waiting_in m) (run (waiting_in n) e)) (mingled))
      (unite_all (those (waits (join_dots (seen_by m) (seen_by n))) (waiting_in m))
      (those (waits (join_dots (seen_by m) (seen_by n))) (waiting_in n)))
  unfolding merge
  merge-closed =
      ap (λ x. afresh (record { clock = clock_of joined; entries = x.entries; waiting = x.waiting })) under
      ∙ afresh-closed joined (run (waiting_in n)) mingled (unite-ascends h.waiting.rising theirs-valid.rising)
      ∙ ap₂ (map_as joined) entries-closed waiting-closed

  -- the waiting removals of both, united, without those that the joined clock covers
  pub merge-waits : waiting_in (merge m n) ≡ those (waits (join_dots (seen_by m) (seen_by n))) (unite_all (waiting_in m) (waiting_in n))
  merge-waits =
      ap (λ x. waiting_in x) merge-closed ∙ waiting-of _
      ∙ sym (unite-those h.waiting.rising k.waiting.rising (waits joined) (λ x y e. waits-same joined x y e))

  pub merge-seen : seen_by (merge m n) ≡ join_dots (seen_by m) (seen_by n)
  merge-seen = ap (λ x. seen_by x) merge-closed ∙ dots-of joined refl

  -- an end theorem: "After a merge no waiting removal is covered by the map clock."
  pub merge-uncovered : (r : Removal) → r ∈ waiting_in (merge m n) → covers (seen_by (merge m n)) (under_of r) ≡ false
  merge-uncovered r i = rw merge-seen (uncovered joined (unite_all (waiting_in m) (waiting_in n)) r (rw merge-waits at i))

-- another: "or an update that was not yet seen"
pub update-uncovered : {m : Map} (u : Update) → Valid m → counter_in (seen_by m) u.dot.actor < u.dot.counter → (r : Removal)
    → r ∈ waiting_in (update m u) → covers (seen_by (update m u)) (under_of r) ≡ false
update-uncovered {m} u h p r i =
    let c = add_dot (seen_by m) u.dot in
    let e = update-closed u h p in
    rw (ap (λ x. seen_by x) e ∙ dots-of {c = clock_of c} c refl)
    (uncovered c (waiting_in m) r (rw (ap (λ x. waiting_in x) e ∙ waiting-of (those (waits c) (waiting_in m))) at i))
