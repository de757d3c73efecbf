-- An update and a removal that does not list its key trade places.
use mathlib.Core.Path.{◌≡◌, refl, ap, ap₂, sym, ◌∙◌}
use mathlib.Core.Bool.{Bool, true, false, not, cond}
use mathlib.Core.List.Memᴰ
use mathlib.Core.List.{List, [], ◌∷◌, ◌++◌}
use Prim.Native.Nat.{◌<◌}
use lib.Dec.{ltb, leb}
use borrow.Author.Tests.{leb-false, not-false}
use Rattle.listlaws.specs.Fold.{fold}
use Rattle.listlaws.specs.Sift.{sift, those}
use Rattle.listlaws.proofs.Sifts.{sift-append}
use Rattle.listlaws.proofs.Twice.{sift-same, sift-sift}
use Rattle.clock.specs.declared.Dot.{Dot}
use Rattle.clock.specs.Dots.{is_empty, counter_in, covers, add_dot}
use Rattle.clock.specs.Lawful.{Lawful}
use Rattle.clock.proofs.Covers.{covers-trans, covers-add}
use Rattle.entries.specs.declared.Entry.{Entry}
use Rattle.removals.specs.declared.Removal.{Removal}
use Rattle.entries.specs.declared.Update.{Update}
use Rattle.entries.specs.Model.{dots_in, entry_as}
use Rattle.removals.specs.Model.{under_of, listed_in}
use Rattle.entries.specs.Entries.{stays, remove_from, remove_entries, put_entry, entry_at, aside, put_entries, run}
use Rattle.removals.specs.Waits.{listed, waits, unite_all, unite_into}
use Rattle.entries.specs.Valid.{ValidEntries}
use Rattle.removals.specs.Valid.{ValidRemoval, ValidWaiting}
use Rattle.entries.proofs.Packs.{entries-of}
use Rattle.removals.proofs.Packs.{waiting-of}
use Rattle.entries.proofs.Cuts.{Whole, whole-valid, whole-none}
use Rattle.entries.proofs.Runs.{from_key, from-other, gone-stays, whole_from, run-trade, run-whole, removes-changed, run-unite, run-some}
use Rattle.removals.proofs.Waits.{waits-covers, waits-same, waits-some}
use Rattle.removals.proofs.Uniting.{unite-nil, unite-those}
use Rattle.removals.proofs.WaitingValid.{valid-one}
use Rattle.entries.proofs.ByKey.{or_new_entry, removed-entry}
use Rattle.entries.proofs.Puts.{at_every, put_some}
use Rattle.entries.proofs.EntriesValid
use Rattle.map.specs.declared.Map.{Map}
use Rattle.map.specs.Model.{seen_by, entries_in, waiting_in, map_as}
use Rattle.map.specs.Removing.{remove}
use Rattle.map.specs.Updating.{update}
use Rattle.map.specs.Valid.{Valid, ValidUpdate}
use Rattle.map.proofs.Removals.{remove-as, update-closed}
use Rattle.map.proofs.Kept.{seen_of, under-own, held_after, remove-laid, valid-remove, valid-put}
use Rattle.maplaws.proofs.OneKey.{those-first}

module _ {seen : List Dot} {l : List Entry} (v : ValidEntries seen l) (u : Update) (p : 0 < u.dot.counter) (r : Removal)
    (n : listed (listed_in r) u.key ≡ false) where
  abbrev old : Entry
  old = entry_at u.key l

  old-key : old.key ≡ u.key
  old-key = at_every (λ e. e.key ≡ u.key) u.key l (λ e i q. q) refl

  -- the entry of the update's key is not touched by the removal
  old-settled : or_new_entry old ≡ old
  unfolding or_new_entry
  old-settled = at_every (λ e. or_new_entry e ≡ e) u.key l (λ e i q. rw (v.each e i).some refl) (new (stays (entry_as u.key [] [])))
    where
      new : (b : Bool) → cond b (entry_as u.key [] []) (entry_as u.key [] []) ≡ entry_as u.key [] []
      new true = refl
      new false = refl

  old-kept : entry_at u.key (remove_entries r l) ≡ old
  old-kept =
      removed-entry r v.rising u.key
      ∙ ap or_new_entry (from-other r old (ap (listed (listed_in r)) old-key ∙ n)) ∙ old-settled

  abbrev fresh : Entry
  fresh = put_entry u old

  fresh_kept : remove_from r fresh ≡ fresh
  unfolding put_entry
  fresh_kept = from-other r fresh (ap (listed (listed_in r)) old-key ∙ n)

  fresh-stays : stays fresh ≡ true
  fresh-stays = ap not (put_some u old (at_every (λ e. Lawful (dots_in e)) u.key l (λ e i q. (v.each e i).clock) (whole-none u.key).clock) p)

  aside-kept : (below : Bool) → those (aside below u.key) (remove_entries r l) ≡ remove_entries r (those (aside below u.key) l)
  unfolding remove_entries
  aside-kept below = those-first (aside below u.key) stays (remove_from r) l
      (λ e. ap (λ k. cond below (ltb k u.key) (ltb u.key k)) (from_key r e))

  -- putting trades places with a removal that does not list the key
  pub put-trades : put_entries u (remove_entries r l) ≡ remove_entries r (put_entries u l)
  unfolding put_entries remove_entries sift
  put-trades =
      rw (old-kept, aside-kept true, aside-kept false)
      (sym (sift-append stays (remove_from r) (those (aside true u.key) l) (fresh ∷ those (aside false u.key) l)
      ∙ ap (λ s. remove_entries r (those (aside true u.key) l) ++ s) (rw (fresh_kept, fresh-stays) refl)))

-- removals wait under a larger clock only where they wait under the smaller
waits-later : (c d : List Dot) (r : Removal) → covers d c ≡ true → waits c r ≡ false → waits d r ≡ false
waits-later c d r t e =
    waits-covers d r ∙ ap not (covers-trans d c (under_of r) t (not-false (covers c (under_of r)) (sym (waits-covers c r) ∙ e)))

module _ {w : List Removal} {r : Removal} (v : ValidWaiting w) (q : ValidRemoval r) where
  -- the removal again
  again : {e : Entry} → Whole e → remove_from r (remove_from r e) ≡ remove_from r e
  unfolding fold sift
  again h = run-some (λ x. true) {ws = r ∷ []} (λ x i. rw (Memᴰ.eq_of_singleton i) q.clock) h

  -- whether or not the removal was united into those that wait
  run-held : (c : List Dot) {e : Entry} → Whole e → run (held_after c w r) (remove_from r e) ≡ remove_from r (run w e)
  unfolding held_after fold
  run-held c {e} h = go (waits c r) refl
    where
      go : (b : Bool) → waits c r ≡ b → run (cond b (unite_into w r) w) (remove_from r e) ≡ remove_from r (run w e)
      go true t =
          run-unite v (valid-one q (waits-some c r t)) (whole_from r e h) ∙ ap (remove_from r) (run-trade w (r ∷ []) e)
          ∙ again (run-whole w h)
      go false t = run-trade w (r ∷ []) e

  -- what still waits under the new clock
  waits-held : (c d : List Dot) → covers d c ≡ true → those (waits d) (held_after c w r) ≡ held_after d (those (waits d) w) r
  unfolding held_after sift
  waits-held c d t = go (waits c r) refl
    where
      last : (b : Bool) → unite_all (those (waits d) w) (cond b (r ∷ []) []) ≡ cond b (unite_into (those (waits d) w) r) (those (waits d) w)
      last true = refl
      last false = unite-nil (those (waits d) w)

      go : (b : Bool) → waits c r ≡ b → those (waits d) (cond b (unite_into w r) w) ≡ cond (waits d r) (unite_into (those (waits d) w) r)
          (those (waits d) w)
      go true e = unite-those v.rising (valid-one q (waits-some c r e)).rising (waits d) (waits-same d) ∙ last (waits d r)
      go false e = rw (waits-later c d r t e) refl

module _ {m : Map} {u : Update} {r : Removal} (h : Valid m) (k : ValidUpdate u) (q : ValidRemoval r) (n : listed (listed_in r) u.key ≡ false) where
  abbrev later : List Dot
  later = add_dot (seen_by m) u.dot

  abbrev held : List Removal
  held = held_after (seen_by m) (waiting_in m) r

  abbrev taken : List Entry
  taken = remove_entries r (entries_in m)

  abbrev put : List Entry
  put = put_entries u (entries_in m)

  laid : remove m r ≡ map_as (seen_by m) taken held
  laid = remove-laid (under-own h) r

  -- the entries, either way
  entries-trade : sift stays (run held) (put_entries u taken) ≡ remove_entries r (sift stays (run (waiting_in m)) put)
  unfolding remove_entries fold
  entries-trade =
      ap (sift stays (run held)) (put-trades h.entries u k.dot r n)
      ∙ sift-sift stays (remove_from r) (run held) put (λ e i t. gone-run held (remove_from r e) t)
      ∙ sift-same stays (λ e. run held (remove_from r e)) (λ e. remove_from r (run (waiting_in m) e)) put
      (λ e i. run-held h.waiting q (seen_by m)
      (whole-valid ((EntriesValid.valid-puts h.entries h.clock u k.dot (valid-put k)).each e i)))
      ∙ sym (removes-changed (r ∷ []) (run (waiting_in m)) put)
    where
      gone-run : (ws : List Removal) (e : Entry) → stays e ≡ false → stays (run ws e) ≡ false
      gone-run ws e t = ap not (gone-stays ws e (not-false (is_empty (dots_in e)) t))

  -- a dot that was not seen
  unseen-trades : counter_in (seen_by m) u.dot.actor < u.dot.counter → update (remove m r) u ≡ remove (update m u) r
  unfolding held_after
  unseen-trades p =
      ap (λ x. update x u) laid ∙ update-closed {m = map_as (seen_by m) taken held} u (rw laid at (valid-remove h q))
      (rw (seen_of (seen_by m) taken held) p)
      ∙ rw (seen_of (seen_by m) taken held, entries-of taken, waiting-of held)
      (ap₂ (map_as later) entries-trade (waits-held h.waiting q (seen_by m) later (covers-add h.clock u.dot)))
      ∙ sym (remove-as later (sift stays (run (waiting_in m)) put) (those (waits later) (waiting_in m)) r)
      ∙ ap (λ x. remove x r) (sym (update-closed u h p))

  -- a dot that was seen: the update does nothing either way
  seen-trades : leb u.dot.counter (counter_in (seen_by m) u.dot.actor) ≡ true → update (remove m r) u ≡ remove (update m u) r
  unfolding update remove
  seen-trades t = rw t refl

  pub maps-trade : update (remove m r) u ≡ remove (update m u) r
  maps-trade = go (leb u.dot.counter (counter_in (seen_by m) u.dot.actor)) refl
    where
      go : (b : Bool) → leb u.dot.counter (counter_in (seen_by m) u.dot.actor) ≡ b → update (remove m r) u ≡ remove (update m u) r
      go true t = seen-trades t
      go false t = unseen-trades (leb-false u.dot.counter (counter_in (seen_by m) u.dot.actor) t)
