-- Runs of removals on a map, and the closed forms of applying the waiting ones afresh and of an update, once over the level.
use mathlib.Core.Path.{◌≡◌, refl, ap, sym, ◌∙◌}
use mathlib.Core.Bool.{Bool, true, false, not, cond}
use mathlib.Core.List.{List, [], ◌∷◌, map}
use Prim.Native.Nat.{ℕ, ◌<◌}
use borrow.Author.Tests.{not-false, lt-leb}
use Rattle.listlaws.specs.Sift.{sift, those}
use Rattle.listlaws.specs.Fold.{fold}
use Rattle.listlaws.specs.Order.{◌∈◌, Ascending}
use Rattle.listlaws.proofs.Those.{those-ascends, those-all}
use Rattle.listlaws.proofs.Twice.{sift-map, sift-sift}
use Rattle.clock.specs.declared.Dot.{Dot}
use Rattle.clock.specs.Dots.{is_empty, counter_in, add_dot}
use Rattle.clock.proofs.Empties.{empty-cut}
use Rattle.removals.specs.declared.Removal.{Removal}
use Rattle.removals.specs.Model.{under_of, listed_in}
use Rattle.removals.specs.Waits.{listed, waits, removal_before, unite_into}
use Rattle.removals.proofs.Uniting.{unite-afresh}
use Rattle.levels.specs.MapOver.{EntryOf, MapOf, stays_of, cut_entry_of, remove_from_of, remove_of, afresh_of, put_entries_of, update_map_of}
use Rattle.levels.specs.MapOver.{map_with}
use Rattle.rules.specs.OneEntry.{Holds}

module _ {A O : Type 0} (r : Holds A O) where
  -- one removal after the other, on an entry and on all
  abbrev pub run : List Removal → EntryOf A → EntryOf A
  run ws e = fold (λ x w. remove_from_of r w x) e ws

  abbrev pub runs : List Removal → List (EntryOf A) → List (EntryOf A)
  runs ws l = fold (λ s w. sift stays_of (remove_from_of r w) s) l ws

  pub dropped : (v : Removal) (e : EntryOf A) → stays_of e ≡ false → stays_of (remove_from_of r v e) ≡ false
  unfolding remove_from_of cut_entry_of
  dropped v e t = go (listed (listed_in v) e.key)
    where
      go : (b : Bool) → stays_of (cond b (cut_entry_of r (under_of v) e) e) ≡ false
      go true = ap not (empty-cut (under_of v) e.dots (not-false (is_empty e.dots) t))
      go false = t

  pub run-gone : (ws : List Removal) (e : EntryOf A) → stays_of e ≡ false → stays_of (run ws e) ≡ false
  unfolding fold
  run-gone [] e t = t
  run-gone (w ∷ ws) e t = run-gone ws (remove_from_of r w e) (dropped w e t)

  remove-those : (w : Removal) (l : List (EntryOf A)) → sift stays_of (remove_from_of r w) (those stays_of l)
      ≡ those stays_of (map (remove_from_of r w) l)
  remove-those w l =
      sift-sift stays_of (λ e. e) (remove_from_of r w) l (λ e i t. dropped w e t) ∙ sym (sift-map stays_of (λ e. e) (remove_from_of r w) l)

  -- a run of removals acts entry by entry
  pub removes-run : (ws : List Removal) (l : List (EntryOf A)) → runs ws (those stays_of l) ≡ sift stays_of (run ws) l
  unfolding fold
  removes-run [] l = refl
  removes-run (w ∷ ws) l =
      ap (runs ws) (remove-those w l) ∙ removes-run ws (map (remove_from_of r w) l) ∙ sift-map stays_of (run ws) (remove_from_of r w) l

  pub removes : (ws : List Removal) (c : List Dot) (l : List (EntryOf A)) (w : List Removal) → fold (remove_of r) (map_with c l w) ws
      ≡ map_with c (runs ws l) (fold unite_into w (those (waits c) ws))
  unfolding fold sift remove_of
  removes [] c l w = refl
  removes (v ∷ ws) c l w = removes ws c (sift stays_of (remove_from_of r v) l) (cond (waits c v) (unite_into w v) w) ∙ go (waits c v)
    where
      go : (b : Bool) → map_with c (runs ws (sift stays_of (remove_from_of r v) l)) (fold unite_into (cond b (unite_into w v) w) (those (waits c) ws))
          ≡ map_with c (runs ws (sift stays_of (remove_from_of r v) l)) (fold unite_into w (cond b (v ∷ those (waits c) ws) (those (waits c) ws)))
      go true = refl
      go false = refl

  -- the waiting removals, afresh: each entry takes those that list it, and those that the clock covers go
  pub afresh-closed : (c : List Dot) (l : List (EntryOf A)) {w : List Removal} → Ascending removal_before w
      → ((e : EntryOf A) → e ∈ l → stays_of e ≡ true) → afresh_of r (map_with c l w) ≡ map_with c (sift stays_of (run w) l) (those (waits c) w)
  unfolding afresh_of
  afresh-closed c l {w} a f =
      removes w c l [] ∙ ap (map_with c (runs w l)) (unite-afresh (those-ascends (waits c) a))
      ∙ ap (λ s. map_with c s (those (waits c) w)) (ap (runs w) (sym (those-all stays_of l f)) ∙ removes-run w l)

  -- an update of an unseen dot
  pub update-closed : (m : MapOf A) (d : Dot) (k : ℕ) (o : O) → Ascending removal_before m.waiting
      → ((e : EntryOf A) → e ∈ put_entries_of r d k o m.entries → stays_of e ≡ true) → counter_in m.seen d.actor < d.counter
      → update_map_of r m d k o ≡ map_with (add_dot m.seen d) (sift stays_of (run m.waiting) (put_entries_of r d k o m.entries))
      (those (waits (add_dot m.seen d)) m.waiting)
  unfolding update_map_of
  update-closed m d k o a f p =
      rw (lt-leb d.counter (counter_in m.seen d.actor) p) (afresh-closed (add_dot m.seen d) (put_entries_of r d k o m.entries) a f)
