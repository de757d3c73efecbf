-- Level 1 is the sled: what 01's rules make of a map's arrays, as lists, is what they make of the lists. One law for each rule.
use mathlib.Core.Path.{◌≡◌, refl, ap, sym, ◌∙◌}
use mathlib.Core.Bool.{Bool, true, false, cond}
use mathlib.Core.List.{List, [], ◌∷◌, ◌++◌, map, map-append, flatten}
use Prim.Native.Nat.{ℕ}
use lib.Dec.{ltb, leb, eqb}
use Rattle.listlaws.specs.Sift.{sift, those}
use Rattle.listlaws.specs.First.{first_in}
use Rattle.listlaws.specs.Fold.{fold}
use Rattle.listlaws.specs.Weave.{weave}
use Rattle.listlaws.specs.Order.{by}
use Rattle.listlaws.proofs.Weaves.{weave-map}
use Rattle.clock.specs.declared.Dot.{Dot}
use Rattle.clock.specs.Dots.{clock_of, is_empty, counter_in, covers, cut_dots, join_dots, add_dot}
use Rattle.clock.proofs.Packs.{dots-of}
use Rattle.register.specs.declared.Value.{Value}
use Rattle.removals.specs.declared.Removal.{Removal}
use Rattle.removals.specs.Model.{waiting_of, waiting_as, under_of, listed_in}
use Rattle.removals.specs.Waits.{listed, waits, unite_into, reset_waiting}
use Rattle.removals.proofs.Packs.{waiting-of}
use Rattle.rules.specs.OneEntry.{keep_dots}
use Rattle.entries.specs.declared.Entry.{Entry}
use Rattle.entries.specs.declared.Update.{Update}
use Rattle.entries.specs.Model.{dots_in, entry_as, entries_as}
use Rattle.entries.specs.Entries.{registers, stays, cut_entry, put_entry, entry_at, cut_alone, merge_both, remove_from, remove_entries, aside}
use Rattle.entries.specs.Entries.{put_entries, alone, together, merge_entries}
use Rattle.entries.proofs.Packs.{dots-in, values-in, entries-of}
use Rattle.map.specs.declared.Map.{Map}
use Rattle.map.specs.Model.{seen_by, entries_in, waiting_in}
use Rattle.map.specs.Removing.{remove, afresh}
use Rattle.map.specs.Updating.{update}
use Rattle.map.specs.Merging.{merge}
use Rattle.map.specs.Resetting.{reset}
use Rattle.levels.specs.MapOver.{EntryOf, entry_with, map_with, stays_of, cut_entry_of, put_entry_of, entry_at_of, cut_alone_of, merge_both_of}
use Rattle.levels.specs.MapOver.{remove_from_of, put_entries_of, alone_of, together_of, merge_entries_of}
use Rattle.levels.specs.MapOver.{remove_of, afresh_of, update_map_of, merge_of, reset_of}
use Rattle.levels.specs.Sled.{opened, opened_map}
use Rattle.levels.proofs.Through.{sift-through, first-through, flatten-through, weave-through}

-- one entry
open-as : (k : ℕ) (c : List Dot) (l : List Value) → opened (entry_as k c l) ≡ entry_with k c l
open-as k c l = λ i. entry_with k (dots-in k c l i) (values-in k c l i)

open-cut : (c : List Dot) (e : Entry) → opened (cut_entry c e) ≡ cut_entry_of registers c (opened e)
unfolding cut_entry cut_entry_of
open-cut c e = open-as _ _ _

open-put : (u : Update) (e : Entry) → opened (put_entry u e) ≡ put_entry_of registers u.dot u.put (opened e)
unfolding put_entry
open-put u e = open-as _ _ _

open_at : (k : ℕ) (l : List Entry) → opened (entry_at k l) ≡ entry_at_of registers k (map opened l)
unfolding entry_at entry_at_of
open_at k l =
    first-through opened (λ (e : EntryOf (List Value)). eqb e.key k) (entry_as k [] []) l
    ∙ ap (λ z. first_in (λ (e : EntryOf (List Value)). eqb e.key k) (λ e. e) z (map opened l)) (open-as k [] [])

open-cut-alone : (other : List Dot) (e : Entry) → opened (cut_alone other e) ≡ cut_alone_of registers other (opened e)
unfolding cut_alone cut_alone_of
open-cut-alone other e = open-as _ _ _

open-both : (ours theirs : List Dot) (e f : Entry) → opened (merge_both ours theirs e f) ≡ merge_both_of registers ours theirs (opened e) (opened f)
unfolding merge_both merge_both_of
open-both ours theirs e f = open-as _ _ _

open-from : (w : Removal) (e : Entry) → opened (remove_from w e) ≡ remove_from_of registers w (opened e)
unfolding remove_from remove_from_of
open-from w e = go (listed (listed_in w) e.key)
  where
    go : (b : Bool) → opened (cond b (cut_entry (under_of w) e) e) ≡ cond b (cut_entry_of registers (under_of w) (opened e)) (opened e)
    go true = open-cut (under_of w) e
    go false = refl

-- nothing is left of an entry, or one
open-left : (b : Bool) (e : Entry) (f : EntryOf (List Value)) → opened e ≡ f → map opened (cond b [] (e ∷ [])) ≡ cond b [] (f ∷ [])
open-left true e f q = refl
open-left false e f q = ap (λ x. x ∷ []) q

open-alone : (other : List Dot) (e : Entry) → map opened (alone other e) ≡ alone_of registers other (opened e)
unfolding alone alone_of
open-alone other e = open-left (covers other (dots_in e)) (cut_alone other e) (cut_alone_of registers other (opened e)) (open-cut-alone other e)

open-together : (ours theirs : List Dot) (e f : Entry) → map opened (together ours theirs e f)
    ≡ together_of registers ours theirs (opened e) (opened f)
unfolding together together_of
open-together ours theirs e f =
    open-left (is_empty (keep_dots ours theirs (dots_in e) (dots_in f))) (merge_both ours theirs e f)
    (merge_both_of registers ours theirs (opened e) (opened f))
    (open-both ours theirs e f)

-- all entries
open-removed : (w : Removal) (l : List Entry) → map opened (remove_entries w l) ≡ sift stays_of (remove_from_of registers w) (map opened l)
unfolding remove_entries
open-removed w l = sift-through opened stays_of (remove_from w) (remove_from_of registers w) (open-from w) l

open-puts : (u : Update) (l : List Entry) → map opened (put_entries u l) ≡ put_entries_of registers u.dot u.key u.put (map opened l)
unfolding put_entries put_entries_of
open-puts u l =
    map-append opened (those (aside true u.key) l) (put_entry u (entry_at u.key l) ∷ those (aside false u.key) l)
    ∙ (λ i.
    sift-through opened (λ e. ltb e.key u.key) (λ e. e) (λ e. e) (λ e. refl) l i
    ++ (one i ∷ sift-through opened (λ e. ltb u.key e.key) (λ e. e) (λ e. e) (λ e. refl) l i))
  where
    one : opened (put_entry u (entry_at u.key l)) ≡ put_entry_of registers u.dot u.put (entry_at_of registers u.key (map opened l))
    one = open-put u (entry_at u.key l) ∙ ap (put_entry_of registers u.dot u.put) (open_at u.key l)

open-merged : (ours theirs : List Dot) (l m : List Entry)
    → map opened (merge_entries ours theirs l m) ≡ merge_entries_of registers ours theirs (map opened l) (map opened m)
unfolding merge_entries merge_entries_of
open-merged ours theirs l m =
    flatten-through opened (weave (by (λ e. e.key)) (alone theirs) (alone ours) (together ours theirs) l m)
    ∙ ap flatten (sym (weave-map (by (λ (e : Entry). e.key)) (alone theirs) (alone ours) (together ours theirs) (map opened) l m)
    ∙ (λ i. weave (by (λ (e : Entry). e.key)) (λ e. open-alone theirs e i) (λ e. open-alone ours e i) (λ e f. open-together ours theirs e f i) l m)
    ∙ sym (weave-through opened (by (λ (e : EntryOf (List Value)). e.key)) (alone_of registers theirs) (alone_of registers ours)
    (together_of registers ours theirs) l m))

-- the map
pub open-remove : (m : Map) (w : Removal) → opened_map (remove m w) ≡ remove_of registers (opened_map m) w
unfolding remove remove_of
open-remove m w = λ i. map_with (seen_by m) (entries i) (held (waits (seen_by m) w) i)
  where
    entries : map opened (entries_in (remove m w)) ≡ sift stays_of (remove_from_of registers w) (map opened (entries_in m))
    entries = ap (map opened) (entries-of (remove_entries w (entries_in m))) ∙ open-removed w (entries_in m)

    held : (b : Bool) → waiting_of (cond b (waiting_as (unite_into (waiting_in m) w)) m.waiting) ≡ cond b (unite_into (waiting_in m) w) (waiting_in m)
    held true = waiting-of (unite_into (waiting_in m) w)
    held false = refl

open-removes : (ws : List Removal) (m : Map) → opened_map (fold remove m ws) ≡ fold (remove_of registers) (opened_map m) ws
unfolding fold
open-removes [] m = refl
open-removes (w ∷ ws) m = open-removes ws (remove m w) ∙ ap (λ x. fold (remove_of registers) x ws) (open-remove m w)

pub open-afresh : (m : Map) → opened_map (afresh m) ≡ afresh_of registers (opened_map m)
unfolding afresh afresh_of
open-afresh m =
    open-removes (waiting_in m) (record { clock = m.clock; entries = m.entries; waiting = waiting_as [] })
    ∙ ap (λ w. fold (remove_of registers) (map_with (seen_by m) (map opened (entries_in m)) w) (waiting_in m)) (waiting-of [])

pub open-update : (m : Map) (u : Update) → opened_map (update m u) ≡ update_map_of registers (opened_map m) u.dot u.key u.put
unfolding update update_map_of
open-update m u = go (leb u.dot.counter (counter_in (seen_by m) u.dot.actor))
  where
    grown : List Dot
    grown = add_dot (seen_by m) u.dot

    next : Map
    next = record { clock = clock_of (add_dot (seen_by m) u.dot); entries = entries_as (put_entries u (entries_in m)); waiting = m.waiting }

    entries : map opened (entries_in next) ≡ put_entries_of registers u.dot u.key u.put (map opened (entries_in m))
    entries = ap (map opened) (entries-of (put_entries u (entries_in m))) ∙ open-puts u (entries_in m)

    after : opened_map (afresh next) ≡ afresh_of registers
        (map_with (add_dot (seen_by m) u.dot) (put_entries_of registers u.dot u.key u.put (map opened (entries_in m))) (waiting_in m))
    after = open-afresh next ∙ (λ i. afresh_of registers (map_with (dots-of {c = clock_of grown} grown refl i) (entries i) (waiting_in m)))

    go : (b : Bool) → opened_map (cond b m (afresh next)) ≡ cond b (opened_map m) (afresh_of registers
        (map_with (add_dot (seen_by m) u.dot) (put_entries_of registers u.dot u.key u.put (map opened (entries_in m))) (waiting_in m)))
    go true = refl
    go false = after

pub open-merge : (m n : Map) → opened_map (merge m n) ≡ merge_of registers (opened_map m) (opened_map n)
unfolding merge merge_of
open-merge m n =
    open-afresh (record { clock = clock_of joined; entries = under.entries; waiting = under.waiting })
    ∙ (λ i. afresh_of registers (map_with (dots-of {c = clock_of joined} joined refl i) (same i).entries (same i).waiting))
  where
    joined : List Dot
    joined = join_dots (seen_by m) (seen_by n)

    start : Map
    start = record {
      clock = m.clock;
      entries = entries_as (merge_entries (seen_by m) (seen_by n) (entries_in m) (entries_in n));
      waiting = m.waiting;
    }

    under : Map
    under = fold remove start (waiting_in n)

    entries : map opened (entries_in start) ≡ merge_entries_of registers (seen_by m) (seen_by n) (map opened (entries_in m))
        (map opened (entries_in n))
    entries = ap (map opened) (entries-of (merge_entries (seen_by m) (seen_by n) (entries_in m) (entries_in n)))
        ∙ open-merged (seen_by m) (seen_by n) (entries_in m) (entries_in n)

    same : opened_map under ≡ fold (remove_of registers) (map_with (seen_by m)
        (merge_entries_of registers (seen_by m) (seen_by n) (map opened (entries_in m)) (map opened (entries_in n))) (waiting_in m)) (waiting_in n)
    same = open-removes (waiting_in n) start ∙ ap (λ l. fold (remove_of registers) (map_with (seen_by m) l (waiting_in m)) (waiting_in n)) entries

pub open-reset : (m : Map) (c : List Dot) → opened_map (reset m c) ≡ reset_of registers c (opened_map m)
unfolding reset reset_of
open-reset m c = λ i. map_with (dots-of {c = clock_of (cut_dots c (seen_by m))} (cut_dots c (seen_by m)) refl i) (entries i)
    (waiting-of (reset_waiting c (waiting_in m)) i)
  where
    entries : map opened (entries_in (reset m c)) ≡ sift stays_of (cut_entry_of registers c) (map opened (entries_in m))
    entries = ap (map opened) (entries-of (sift stays (cut_entry c) (entries_in m)))
        ∙ sift-through opened stays_of (cut_entry c) (cut_entry_of registers c) (open-cut c) (entries_in m)
