-- What holds of a map's clock, of each entry and of each waiting removal holds after every call: the one law of preservation.
use mathlib.Core.Path.{◌≡◌, refl}
use mathlib.Core.Bool.{Bool, true, false, cond}
use mathlib.Core.List.Memᴰ
use mathlib.Core.List.{List, []}
use Prim.Native.Nat.{ℕ}
use lib.Dec.{leb}
use Rattle.listlaws.specs.Sift.{sift}
use Rattle.listlaws.specs.Fold.{fold}
use Rattle.listlaws.specs.Order.{◌∈◌}
use Rattle.listlaws.proofs.Pads.{take-pad}
use Rattle.listlaws.proofs.Sides.{fold-keeps}
use Rattle.clock.specs.declared.Dot.{Dot}
use Rattle.limits.specs.Limits.{dot_limit}
use Rattle.clock.specs.Dots.{no_dot, counter_in, cut_dots, join_dots, add_dot}
use Rattle.register.specs.declared.Value.{Value}
use Rattle.entries.specs.declared.Entry.{Entry}
use Rattle.removals.specs.declared.Removal.{Removal}
use Rattle.entries.specs.declared.Update.{Update}
use Rattle.entries.specs.Model.{dots_in, entry_as}
use Rattle.removals.specs.Model.{under_of, listed_in}
use Rattle.entries.specs.Entries.{stays, cut_entry, remove_from, remove_entries, put_entry, put_entries, cut_alone, merge_both, merge_entries}
use Rattle.removals.specs.Waits.{listed, waits, unite, unite_into, cut_removal, reset_waiting}
use Rattle.removals.specs.Valid.{ValidRemoval, ValidWaiting}
use Rattle.entries.proofs.Packs.{entries-of}
use Rattle.removals.proofs.Packs.{waiting-of}
use Rattle.entries.proofs.Preserving.{Closed, Made, entry-cut, entry-put, entry-alone, entry-together}
use Rattle.entries.proofs.Puts.{at_every, put-every}
use Rattle.entries.proofs.EntriesValid.{remove-entries-each, reset-entries-each, merge-entries-each}
use Rattle.removals.proofs.Waits.{waits-some}
use Rattle.removals.proofs.WaitingValid.{into-each, reset-each}
use Rattle.map.specs.declared.Map.{Map}
use Rattle.map.specs.declared.Op.{Op}
use Rattle.map.specs.Model.{seen_by, entries_in, waiting_in, map_as}
use Rattle.map.specs.Removing.{remove, afresh}
use Rattle.map.specs.Updating.{update}
use Rattle.map.specs.Applying.{apply}
use Rattle.map.specs.Merging.{merge}
use Rattle.map.specs.Resetting.{reset}
use Rattle.map.specs.Valid.{Valid, ValidUpdate, ValidOp}
use Rattle.map.proofs.Kept.{Under, under-own, seen_of, held_after, remove-laid, under-remove, cleared, valid-cleared, updated, valid-updated}
use Rattle.map.proofs.Kept.{mingled, under-mingled, merged, valid-merged}

pub record Each (C : List Dot → Type 0) (E : Entry → Type 0) (R : Removal → Type 0) (m : Map) : Type 0 where
  pub clock : C (seen_by m)
  pub entries : (e : Entry) → e ∈ entries_in m → E e
  pub waiting : (r : Removal) → r ∈ waiting_in m → R r

-- cutting, joining and uniting keep the three properties
pub record Rules (C : List Dot → Type 0) (E : Entry → Type 0) (R : Removal → Type 0) : Type 0 where
  pub cut : (by l : List Dot) → C l → C (cut_dots by l)
  pub join : (l m : List Dot) → C l → C m → C (join_dots l m)
  pub entry-cut : (by : List Dot) (e : Entry) → E e → E (cut_entry by e)
  pub entry-alone : (other : List Dot) (e : Entry) → E e → E (cut_alone other e)
  pub entry-together : (ours theirs : List Dot) (e f : Entry) → E e → E f → E (merge_both ours theirs e f)
  pub removal-cut : (by : List Dot) (r : Removal) → R r → R (cut_removal by r)
  pub united : (x y : Removal) → ValidRemoval x → ValidRemoval y → R x → R y → R (unite x y)

-- an update keeps them
pub record Taken (C : List Dot → Type 0) (E : Entry → Type 0) (u : Update) : Type 0 where
  pub added : (l : List Dot) → C l → C (add_dot l u.dot)
  pub put : (e : Entry) → E e → E (put_entry u e)
  pub new : E (entry_as u.key [] [])

pub record TakenOp (C : List Dot → Type 0) (E : Entry → Type 0) (R : Removal → Type 0) (op : Op) : Type 0 where
  pub removal : R op.removal
  pub update : op.up ≡ true → Taken C E op.update

-- where an entry's property is one of its key, its clock and its values
module _ {K : ℕ → Type 0} {C : List Dot → Type 0} {Q : Value → Type 0} {E : Entry → Type 0} (h : Closed C Q) (m : Made K C Q E) where
  pub rules-of : {R : Removal → Type 0} → ((by : List Dot) (r : Removal) → R r → R (cut_removal by r))
      → ((x y : Removal) → ValidRemoval x → ValidRemoval y → R x → R y → R (unite x y)) → Rules C E R
  rules-of cut unites = record {
    cut = h.cut;
    join = h.join;
    entry-cut = entry-cut h m;
    entry-alone = entry-alone h m;
    entry-together = entry-together h m;
    removal-cut = cut;
    united = unites;
  }

  pub taken_of : (u : Update) → K u.key → C [] → ((l : List Dot) → C l → C (add_dot l u.dot)) → Q u.put → Taken C E u
  taken_of u k none added put = record {
    added = added;
    put = λ e s. entry-put h m u e s (added (dots_in e) (m.clock e s)) (λ n. put);
    new = m.make u.key [] [] k none (λ v i. absurd (Memᴰ.not-nil i));
  }

module _ {C : List Dot → Type 0} {E : Entry → Type 0} {R : Removal → Type 0} where
  pub each-as : (c : List Dot) (l : List Entry) (w : List Removal) → C c → ((e : Entry) → e ∈ l → E e) → ((r : Removal) → r ∈ w → R r)
      → Each C E R (map_as c l w)
  each-as c l w p f g = record { clock = rw (seen_of c l w) p; entries = rw (entries-of l) f; waiting = rw (waiting-of w) g }

module _ {C : List Dot → Type 0} {E : Entry → Type 0} {R : Removal → Type 0} (k : Rules C E R) where
  from-kept : (r : Removal) (e : Entry) → E e → E (remove_from r e)
  unfolding remove_from
  from-kept r e s = go (listed (listed_in r) e.key)
    where
      go : (b : Bool) → E (cond b (cut_entry (under_of r) e) e)
      go true = k.entry-cut (under_of r) e s
      go false = s

  held_kept : (seen : List Dot) {w : List Removal} {r : Removal} → ValidWaiting w → ValidRemoval r → ((z : Removal) → z ∈ w → R z) → R r
      → (z : Removal) → z ∈ held_after seen w r → R z
  unfolding held_after
  held_kept seen {w} {r} v g f s z i = go (waits seen r) refl i
    where
      go : (b : Bool) → waits seen r ≡ b → z ∈ cond b (unite_into w r) w → R z
      go true t j = into-each R k.united v g (waits-some seen r t) f s z j
      go false t j = f z j

  pub each-remove : {seen : List Dot} {m : Map} → Under seen m → Each C E R m → {r : Removal} → ValidRemoval r → R r → Each C E R (remove m r)
  each-remove {m = m} v s {r} g t =
      rw (remove-laid v r)
      (each-as (seen_by m) (remove_entries r (entries_in m)) (held_after (seen_by m) (waiting_in m) r) s.clock
      (remove-entries-each E r (entries_in m) (λ e i n. from-kept r e (s.entries e i)))
      (held_kept (seen_by m) v.waiting g s.waiting t))

  each-removes : {seen : List Dot} {m : Map} → Under seen m → Each C E R m → (l : List Removal) → ((r : Removal) → r ∈ l → ValidRemoval r)
      → ((r : Removal) → r ∈ l → R r) → Each C E R (fold remove m l)
  each-removes {seen} {m} v s l f g =
      (fold-keeps remove (λ n. Under seen n × Each C E R n) l
      (λ n r i b. (under-remove b.0 (f r i), each-remove b.0 b.1 (f r i) (g r i))) m (v, s)).1

  each-afresh : {m : Map} → Valid m → Each C E R m → Each C E R (afresh m)
  unfolding afresh cleared
  each-afresh {m} v s =
      each-removes (under-own (valid-cleared v)) (record { clock = s.clock; entries = s.entries; waiting = λ r i. absurd (Memᴰ.not-nil i) })
      (waiting_in m) v.waiting.each s.waiting

  each-updated : {m : Map} → Each C E R m → {u : Update} → Taken C E u → Each C E R (updated m u)
  unfolding updated
  each-updated {m} s {u} t = record {
    clock = rw (take-pad no_dot dot_limit (add_dot (seen_by m) u.dot)) (t.added (seen_by m) s.clock);
    entries = rw (entries-of (put_entries u (entries_in m))) (put-every E u (entries_in m) s.entries
        (at_every (λ e. E (put_entry u e)) u.key (entries_in m) (λ e i q. t.put e (s.entries e i)) (t.put (entry_as u.key [] []) t.new)));
    waiting = s.waiting;
  }

  pub each-update : {m : Map} → Valid m → Each C E R m → {u : Update} → ValidUpdate u → Taken C E u → Each C E R (update m u)
  unfolding update updated
  each-update {m} v s {u} g t = go (leb u.dot.counter (counter_in (seen_by m) u.dot.actor))
    where
      go : (b : Bool) → Each C E R (cond b m (afresh (updated m u)))
      go true = s
      go false = each-afresh (valid-updated v g) (each-updated s t)

  pub each-apply : {m : Map} → Valid m → Each C E R m → {op : Op} → ValidOp op → TakenOp C E R op → Each C E R (apply m op)
  unfolding apply
  each-apply {m} v s {op} g t = go op.up refl
    where
      go : (b : Bool) → op.up ≡ b → Each C E R (cond b (update m op.update) (remove m op.removal))
      go true e = each-update v s (g.update e) (t.update e)
      go false e = each-remove (under-own v) s g.removal t.removal

  module _ {m n : Map} (v : Valid m) (w : Valid n) (s : Each C E R m) (t : Each C E R n) where
    each-mingled : Each C E R (mingled m n)
    unfolding mingled
    each-mingled = record {
      clock = s.clock;
      entries =
          rw (entries-of (merge_entries (seen_by m) (seen_by n) (entries_in m) (entries_in n)))
          (merge-entries-each E (seen_by m) (seen_by n) v.entries.rising w.entries.rising
          (λ e i q. k.entry-alone (seen_by n) e (s.entries e i)) (λ e i q. k.entry-alone (seen_by m) e (t.entries e i))
          (λ e f i j q z. k.entry-together (seen_by m) (seen_by n) e f (s.entries e i) (t.entries f j)));
      waiting = s.waiting;
    }

    each-merged : Each C E R (merged m n)
    unfolding merged
    each-merged =
        let r = each-removes (under-mingled v w) each-mingled (waiting_in n) w.waiting.each t.waiting in
        record {
          clock = rw (take-pad no_dot dot_limit (join_dots (seen_by m) (seen_by n)))
              (k.join (seen_by m) (seen_by n) s.clock t.clock);
          entries = r.entries;
          waiting = r.waiting;
        }

    pub each-merge : Each C E R (merge m n)
    unfolding merge merged mingled
    each-merge = each-afresh (valid-merged v w) each-merged

  pub each-reset : {m : Map} → Valid m → Each C E R m → (c : List Dot) → Each C E R (reset m c)
  unfolding reset
  each-reset {m} v s c =
      each-as (cut_dots c (seen_by m)) (sift stays (cut_entry c) (entries_in m)) (reset_waiting c (waiting_in m)) (k.cut c (seen_by m) s.clock)
      (reset-entries-each E c (entries_in m) (λ e i n. k.entry-cut c e (s.entries e i)))
      (reset-each R k.united v.waiting c (λ r i. k.removal-cut c r (s.waiting r i))).1
