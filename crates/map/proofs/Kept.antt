-- Every operation keeps a valid map valid.
use mathlib.Core.Path.{◌≡◌, refl, ap, sym, ◌∙◌}
use mathlib.Core.Bool.{Bool, true, false, cond}
use mathlib.Core.List.{List, []}
use lib.Dec.{leb}
use Rattle.listlaws.specs.Fold.{fold}
use Rattle.listlaws.specs.Order.{◌∈◌}
use Rattle.listlaws.proofs.Pads.{take-pad}
use Rattle.listlaws.proofs.Sides.{fold-keeps}
use Rattle.clock.specs.declared.Dot.{Dot}
use Rattle.limits.specs.Limits.{dot_limit}
use Rattle.clock.specs.Dots.{no_dot, dots_of, clock_of, is_empty, counter_in, join_dots, add_dot}
use Rattle.clock.specs.Lawful.{Lawful}
use Rattle.clock.proofs.Cuts.{lawful-cut}
use Rattle.clock.proofs.Joins.{lawful-join, lawful-add}
use Rattle.entries.specs.declared.Entry.{Entry}
use Rattle.removals.specs.declared.Removal.{Removal}
use Rattle.entries.specs.declared.Update.{Update}
use Rattle.entries.specs.Model.{entries_as}
use Rattle.removals.specs.Model.{waiting_as}
use Rattle.entries.specs.Entries.{remove_entries, put_entries, merge_entries}
use Rattle.removals.specs.Waits.{waits, unite_into}
use Rattle.entries.specs.Valid.{ValidValue, ValidEntries}
use Rattle.removals.specs.Valid.{ValidRemoval, ValidWaiting}
use Rattle.entries.proofs.Packs.{entries-of}
use Rattle.removals.proofs.Packs.{waiting-of}
use Rattle.entries.proofs.EntriesValid
use Rattle.removals.proofs.Waits.{waits-some}
use Rattle.removals.proofs.WaitingValid.{valid-none, valid-unite-into, valid-reset-waiting}
use Rattle.map.specs.declared.Map.{Map}
use Rattle.map.specs.declared.Op.{Op}
use Rattle.map.specs.Model.{seen_by, entries_in, waiting_in, map_as}
use Rattle.map.specs.Removing.{remove, afresh}
use Rattle.map.specs.Updating.{update}
use Rattle.map.specs.Applying.{apply}
use Rattle.map.specs.Merging.{merge}
use Rattle.map.specs.Resetting.{reset}
use Rattle.map.specs.Valid.{Valid, ValidUpdate, ValidOp}
use Rattle.map.proofs.Removals.{remove-as}

module _ (c : List Dot) (l : List Entry) (w : List Removal) where
  -- what a map was laid down from
  pub seen_of : seen_by (map_as c l w) ≡ c
  seen_of = take-pad no_dot dot_limit c

-- a map whose entries are valid under a clock that need not be its own
pub record Under (seen : List Dot) (m : Map) : Type 0 where
  pub laid : m ≡ map_as (seen_by m) (entries_in m) (waiting_in m)
  pub clock : Lawful (seen_by m)
  pub entries : ValidEntries seen (entries_in m)
  pub waiting : ValidWaiting (waiting_in m)

pub under-own : {m : Map} → Valid m → Under (seen_by m) m
under-own v = record { laid = v.laid; clock = v.clock; entries = v.entries; waiting = v.waiting }

pub own-under : {m : Map} → Under (seen_by m) m → Valid m
own-under v = record { laid = v.laid; clock = v.clock; entries = v.entries; waiting = v.waiting }

pub under-as : {seen c : List Dot} {l : List Entry} {w : List Removal} → Lawful c → ValidEntries seen l → ValidWaiting w → Under seen (map_as c l w)
under-as {seen} {c} {l} {w} h v k = record {
  laid = λ i. map_as (sym (seen_of c l w) i) (sym (entries-of l) i) (sym (waiting-of w) i);
  clock = rw (seen_of c l w) h;
  entries = rw (entries-of l) v;
  waiting = rw (waiting-of w) k;
}

pub valid-as : {c : List Dot} {l : List Entry} {w : List Removal} → Lawful c → ValidEntries c l → ValidWaiting w → Valid (map_as c l w)
valid-as {c} {l} {w} h v k = own-under (under-as h (rw (seen_of c l w) v) k)

-- the removals that wait after a removal
unfoldable pub held_after : List Dot → List Removal → Removal → List Removal
held_after seen w r = cond (waits seen r) (unite_into w r) w

pub valid-held : (seen : List Dot) {w : List Removal} {r : Removal} → ValidWaiting w → ValidRemoval r → ValidWaiting (held_after seen w r)
unfolding held_after
valid-held seen {w} {r} v k = go (waits seen r) refl
  where
    go : (b : Bool) → waits seen r ≡ b → ValidWaiting (cond b (unite_into w r) w)
    go true t = valid-unite-into v k (waits-some seen r t)
    go false t = v

-- what a removal lays down
pub remove-laid : {seen : List Dot} {m : Map} → Under seen m → (r : Removal)
    → remove m r ≡ map_as (seen_by m) (remove_entries r (entries_in m)) (held_after (seen_by m) (waiting_in m) r)
unfolding held_after
remove-laid {m = m} v r = ap (λ n. remove n r) v.laid ∙ remove-as (seen_by m) (entries_in m) (waiting_in m) r

pub under-remove : {seen : List Dot} {m : Map} → Under seen m → {r : Removal} → ValidRemoval r → Under seen (remove m r)
under-remove {seen} {m} v {r} k =
    rw (remove-laid v r) (under-as v.clock (EntriesValid.valid-remove v.entries r) (valid-held (seen_by m) v.waiting k))

-- removals one after the other
module _ {seen : List Dot} {m : Map} (v : Under seen m) (l : List Removal) (f : (r : Removal) → r ∈ l → ValidRemoval r) where
  pub under-removes : Under seen (fold remove m l)
  under-removes = fold-keeps remove (Under seen) l (λ n r i w. under-remove w (f r i)) m v

pub valid-remove : {m : Map} → Valid m → {r : Removal} → ValidRemoval r → Valid (remove m r)
unfolding remove
valid-remove v k = own-under (under-remove (under-own v) k)

pub valid-removes : {m : Map} → Valid m → (l : List Removal) → ((r : Removal) → r ∈ l → ValidRemoval r) → Valid (fold remove m l)
valid-removes {m} v l f = fold-keeps remove Valid l (λ n r i w. valid-remove w (f r i)) m v

-- the map before its waiting removals are applied afresh
unfoldable pub cleared : Map → Map
cleared m = record { clock = m.clock; entries = m.entries; waiting = waiting_as [] }

pub valid-cleared : {m : Map} → Valid m → Valid (cleared m)
unfolding cleared
valid-cleared {m} v =
    let e : cleared m ≡ map_as (seen_by m) (entries_in m) [] = λ i. record {
      clock = (v.laid i).clock;
      entries = (v.laid i).entries;
      waiting = waiting_as
          [];
    } in
    rw e (valid-as v.clock v.entries valid-none)

pub valid-afresh : {m : Map} → Valid m → Valid (afresh m)
unfolding afresh cleared
valid-afresh {m} v = valid-removes (valid-cleared v) (waiting_in m) v.waiting.each

-- the map that an update applies the waiting removals to
unfoldable pub updated : Map → Update → Map
updated m u = record { clock = clock_of (add_dot (seen_by m) u.dot); entries = entries_as (put_entries u (entries_in m)); waiting = m.waiting }

pub valid-put : {u : Update} → ValidUpdate u → is_empty (dots_of u.put.clock) ≡ false → ValidValue u.put
valid-put k n = record { laid = k.laid; clock = k.clock; some = n }

pub valid-updated : {m : Map} → Valid m → {u : Update} → ValidUpdate u → Valid (updated m u)
unfolding updated
valid-updated {m} v {u} k =
    let e : updated m u ≡ map_as (add_dot (seen_by m) u.dot) (put_entries u (entries_in m))
    (waiting_in m) = λ i. record {
      clock = clock_of (add_dot (seen_by m) u.dot);
      entries = entries_as
          (put_entries u (entries_in m));
      waiting = (v.laid i).waiting;
    } in
    rw e (valid-as (lawful-add v.clock u.dot) (EntriesValid.valid-puts v.entries v.clock u k.dot (valid-put k)) v.waiting)

pub valid-update : {m : Map} → Valid m → {u : Update} → ValidUpdate u → Valid (update m u)
unfolding update updated
valid-update {m} v {u} k = go (leb u.dot.counter (counter_in (seen_by m) u.dot.actor))
  where
    go : (b : Bool) → Valid (cond b m (afresh (updated m u)))
    go true = v
    go false = valid-afresh (valid-updated v k)

pub valid-apply : {m : Map} → Valid m → {op : Op} → ValidOp op → Valid (apply m op)
unfolding apply
valid-apply {m} v {op} k = go op.up refl
  where
    go : (b : Bool) → op.up ≡ b → Valid (cond b (update m op.update) (remove m op.removal))
    go true t = valid-update v (k.update t)
    go false t = valid-remove v k.removal

-- the map that a merge applies their waiting removals to, and all waiting removals
unfoldable pub mingled : Map → Map → Map
mingled m n = record {
  clock = m.clock;
  entries = entries_as (merge_entries (seen_by m) (seen_by n) (entries_in m) (entries_in n));
  waiting
      = m.waiting;
}

unfoldable pub merged : Map → Map → Map
merged m n =
    let under = fold remove (mingled m n) (waiting_in n) in
    record { clock = clock_of (join_dots (seen_by m) (seen_by n)); entries = under.entries; waiting = under.waiting }

module _ {m n : Map} (v : Valid m) (w : Valid n) where
  pub under-mingled : Under (join_dots (seen_by m) (seen_by n)) (mingled m n)
  unfolding mingled
  under-mingled =
      let l = merge_entries (seen_by m) (seen_by n) (entries_in m) (entries_in n) in
      let e : mingled m n ≡ map_as (seen_by m) l (waiting_in m) = λ i. record {
        clock = (v.laid i).clock;
        entries = entries_as l;
        waiting = (v.laid
            i).waiting;
      } in
      rw e (under-as v.clock (EntriesValid.valid-merge v.clock w.clock v.entries w.entries) v.waiting)

  pub valid-merged : Valid (merged m n)
  unfolding merged
  valid-merged =
      let k = under-removes under-mingled (waiting_in n) w.waiting.each in
      let under = fold remove (mingled m n) (waiting_in n) in
      let both = join_dots (seen_by m) (seen_by n) in
      let e : merged m n ≡ map_as both (entries_in under) (waiting_in under) = λ i. record {
        clock = clock_of both;
        entries = (k.laid i).entries;
        waiting = (k.laid i).waiting;
      } in
      rw e (valid-as (lawful-join v.clock w.clock) k.entries k.waiting)

  pub valid-merge : Valid (merge m n)
  unfolding merge merged mingled
  valid-merge = valid-afresh valid-merged

pub valid-reset : {m : Map} → Valid m → (c : List Dot) → Valid (reset m c)
unfolding reset
valid-reset {m} v c =
    valid-as (lawful-cut c v.clock) (EntriesValid.valid-resets v.entries v.clock c) (valid-reset-waiting v.waiting.each c)
