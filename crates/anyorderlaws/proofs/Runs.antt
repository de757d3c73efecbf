-- A run of removals, on maps: accepted in every order or in none, one end map, and what that map is.
use mathlib.Core.Path.{◌≡◌, ap, sym, ◌∙◌}
use mathlib.Core.Bool.{true, false, not}
use mathlib.Core.Logic.{◌⊎◌, inl, inr, ⊎_elim}
use mathlib.Core.List.{List}
use borrow.Author.Tests.{not-true}
use Rattle.listlaws.specs.Fold.{fold}
use Rattle.listlaws.specs.Sift.{sift, those}
use Rattle.listlaws.specs.Order.{◌∈◌}
use Rattle.listlaws.proofs.Orders.{apart}
use Rattle.listlaws.proofs.Those.{Sifted, sift-means, sift-holds, those-means, those-holds}
use Rattle.listlaws.proofs.Ranks.{same_rank}
use Rattle.clock.specs.Dots.{is_empty, covers, cut_dots}
use Rattle.entries.specs.declared.Entry.{Entry}
use Rattle.removals.specs.declared.Removal.{Removal}
use Rattle.entries.specs.Model.{dots_in}
use Rattle.removals.specs.Model.{under_of}
use Rattle.entries.specs.Entries.{stays, cut_entry}
use Rattle.removals.specs.Waits.{waits, unite_into}
use Rattle.removals.specs.Valid.{ValidRemoval}
use Rattle.entries.proofs.Packs.{entries-of}
use Rattle.removals.proofs.Packs.{waiting-of}
use Rattle.entries.proofs.Cuts.{cut-key, cut-dots}
use Rattle.removals.proofs.ListingClocks.{sup_of, Clocked, sup-above, sup-reached}
use Rattle.removals.proofs.Waits.{waits-covers}
use Rattle.removals.proofs.WaitingValid.{ready-those}
use Rattle.map.specs.declared.Map.{Map}
use Rattle.map.specs.Model.{seen_by, entries_in, waiting_in, map_as}
use Rattle.map.specs.Removing.{remove}
use Rattle.map.specs.Valid.{Valid}
use Rattle.map.proofs.Kept.{seen_of, valid-removes}
use Rattle.map.proofs.Orders.{removes-closed}
use Rattle.maplaws.specs.Among.{OneOf, Exactly}
use Rattle.maplaws.proofs.United.{Shared, united-exactly, shared-clock, shared-key}
use Rattle.anyorderlaws.specs.Ends.{EndMap}

abbrev pub Removals : List Removal → Type 0
Removals ws = (w : Removal) → w ∈ ws → ValidRemoval w

module _ {m : Map} {ws : List Removal} (h : Valid m) (f : Removals ws) where
  abbrev left : Entry → Entry
  left e = cut_entry (sup_of ws e.key) e

  clocked : Clocked ws
  clocked w i = (f w i).clock

  abbrev joining : List Removal
  joining = those (waits (seen_by m)) ws

  whole : fold remove m ws ≡ map_as (seen_by m) (sift stays left (entries_in m)) (fold unite_into (waiting_in m) joining)
  whole = removes-closed h clocked

  entries-end : entries_in (fold remove m ws) ≡ sift stays left (entries_in m)
  entries-end = ap (λ n. entries_in n) whole ∙ entries-of (sift stays left (entries_in m))

  waiting-end : waiting_in (fold remove m ws) ≡ fold unite_into (waiting_in m) joining
  waiting-end = ap (λ n. waiting_in n) whole ∙ waiting-of (fold unite_into (waiting_in m) joining)

  valid-end : Valid (fold remove m ws)
  valid-end = valid-removes h ws f

  -- an entry at the end, and where it is from
  from : (e : Entry) → e ∈ entries_in (fold remove m ws) → Sifted stays left (entries_in m) e
  from e i = sift-means stays left (entries_in m) (rw entries-end at i)

  left_key : (e : Entry) → (left e).key ≡ e.key
  left_key e = cut-key (sup_of ws e.key) e

  -- an entry that was emptied
  left-goes : (e : Entry) → is_empty (cut_dots (sup_of ws e.key) (dots_in e)) ≡ true → stays (left e) ≡ false
  left-goes e t = ap not (ap is_empty (cut-dots (sup_of ws e.key) e) ∙ t)

  -- one of those that wait, or one that the map's clock does not cover
  module _ {Such : Removal → Type 0} (s : Shared Such) where
    joined : Exactly (OneOf (waiting_in (fold remove m ws)) Such) (OneOf (waiting_in m) Such ⊎ OneOf joining Such)
    joined = rw waiting-end (united-exactly s joining h.waiting (ready-those (seen_by m) f))

  joins : (w : Removal) → w ∈ joining → (w ∈ ws) × (covers (seen_by m) (under_of w) ≡ false)
  joins w i = let r = those-means (waits (seen_by m)) ws i in (
    r.0,
    not-true (covers (seen_by m) (under_of w)) (sym (waits-covers (seen_by m) w) ∙ r.1),
  )

  joining-holds : (w : Removal) → w ∈ ws → covers (seen_by m) (under_of w) ≡ false → w ∈ joining
  joining-holds w i t = those-holds (waits (seen_by m)) i (waits-covers (seen_by m) w ∙ ap not t)

  -- the end map
  pub maps-end : EndMap m ws (fold remove m ws)
  unfolding cut_entry
  maps-end = record {
    clock = ap (λ n. seen_by n) whole ∙ seen_of (seen_by m) (sift stays left (entries_in m)) (fold unite_into (waiting_in m) joining);
    counters = sup_of ws;
    largest = λ k. record { above = sup-above clocked k; reached = sup-reached clocked k };
    loses = λ e i. let s = from e i in (s.source, s.stands, s.changed);
    keeps = λ e i t. rw entries-end (sift-holds stays left i (ap not (ap is_empty (cut-dots (sup_of ws e.key) e) ∙ t)));
    emptied-values = λ e i v j. ((valid-end.entries.each e i).values v j).some;
    emptied-entries = λ e i t g j q. let s = from g j in
        let same : s.source ≡ e = same_rank (λ x. x.key) h.entries.rising s.stands i
        (sym (left_key s.source) ∙ ap (λ x. x.key) (sym s.changed) ∙ q) in
        apart (sym s.passes ∙ ap stays (s.changed ∙ ap left same) ∙ left-goes e t);
    waiting = λ c. let u = joined (shared-clock c) in (
      λ q. ⊎_elim (λ t. inl t) (λ t. let r = joins t.0 t.1 in inr (t.0, r.0, (r.1, t.2))) (u.0 q),
      λ q. u.1 (⊎_elim (λ t. inl t) (λ t. inr (t.0, joining-holds t.0 t.1 t.2.0, t.2.1)) q),
    );
    waiting-keys = λ c k. let u = joined (shared-key c k) in (
      λ q. ⊎_elim (λ t. inl t) (λ t. let r = joins t.0 t.1 in inr (t.0, r.0, (r.1, t.2))) (u.0 q),
      λ q. u.1 (⊎_elim (λ t. inl t) (λ t. inr (t.0, joining-holds t.0 t.1 t.2.0, t.2.1)) q),
    );
  }
