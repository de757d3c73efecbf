-- A list of entries stays valid: after a removal, an update, a merge, a reset, and with fewer entries.
use mathlib.Core.Path.{◌≡◌, refl, ap, sym, ◌∙◌}
use mathlib.Core.Bool.{Bool, true, false, not}
use mathlib.Core.Logic.{⊎_elim}
use mathlib.Core.List.Memᴰ
use mathlib.Core.List.{List}
use Prim.Native.Nat.{ℕ, ◌<◌}
use native.Mathlib.Omega.{arith}
use borrow.Author.Tests.{ltb-true, lt-ltb, not-true}
use Rattle.listlaws.specs.Sift.{sift, those}
use Rattle.listlaws.specs.Order.{◌∈◌, Ascending, next, by}
use Rattle.listlaws.proofs.Orders.{by-strict}
use Rattle.listlaws.proofs.Those.{sift-means, those-means, those-ascends}
use Rattle.listlaws.proofs.Ranks.{by-steady, by_level, level_by}
use Rattle.listlaws.proofs.Woven.{weave-ascends, weave-every}
use Rattle.listlaws.proofs.Sides.{append-ascends, sift-ascends}
use Rattle.clock.specs.declared.Dot.{Dot}
use Rattle.clock.specs.Dots.{dots_of, is_empty, cut_dots, join_dots, add_dot}
use Rattle.clock.specs.Lawful.{Lawful}
use Rattle.clock.proofs.Covers.{covers-join-left, covers-join-right, covers-add}
use Rattle.register.specs.Values.{cut_values}
use Rattle.removals.specs.declared.Removal.{Removal}
use Rattle.entries.specs.declared.Entry.{Entry}
use Rattle.entries.specs.declared.Update.{Update}
use Rattle.entries.specs.Model.{dots_in, values_in}
use Rattle.entries.specs.Entries.{stays, cut_entry, remove_from, remove_entries, put_entry, entry_at, aside, put_entries, cut_alone, merge_both}
use Rattle.entries.specs.Entries.{merge_entries}
use Rattle.entries.specs.Valid.{ValidValue, ValidEntry, ValidEntries}
use Rattle.entries.proofs.Packs.{dots-in}
use Rattle.entries.proofs.Cuts.{cut-key, Whole, lawful-closed, whole-made}
use Rattle.entries.proofs.Runs.{from_key}
use Rattle.entries.proofs.Puts.{at_every, put-every}
use Rattle.entries.proofs.Preserving.{entry-alone, entry-together}
use Rattle.entries.proofs.MergeLeaves.{woven_entries, merge-sifted}
use Rattle.entries.proofs.EntryValid.{valid-more, valid-reset, valid-from, valid-put, valid-new, valid-alone, valid-together}

abbrev key : Entry → ℕ
key e = e.key

-- each rule leaves an entry its key
pub put-key : (u : Update) (e : Entry) → (put_entry u e).key ≡ e.key
unfolding put_entry
put-key u e = refl

pub alone-key : (other : List Dot) (e : Entry) → (cut_alone other e).key ≡ e.key
unfolding cut_alone
alone-key other e = refl

pub together-key : (ours theirs : List Dot) (e f : Entry) → (merge_both ours theirs e f).key ≡ e.key
unfolding merge_both
together-key ours theirs e f = refl

-- the entry at a key has that key
pub at_key : (k : ℕ) (l : List Entry) → (entry_at k l).key ≡ k
at_key k l = at_every (λ e. e.key ≡ k) k l (λ e i q. q) refl

-- the entries after a removal or a reset
pub remove-entries-each : (P : Entry → Type 0) (r : Removal) (l : List Entry)
    → ((e : Entry) → e ∈ l → is_empty (dots_in (remove_from r e)) ≡ false → P (remove_from r e)) → (z : Entry) → z ∈ remove_entries r l → P z
unfolding remove_entries
remove-entries-each P r l f z i =
    let s = sift-means stays (remove_from r) l i in
    let kept : not (is_empty (dots_in (remove_from r s.source))) ≡ true = ap stays (sym s.changed) ∙ s.passes in
    rw s.changed (f s.source s.stands (not-true _ kept))

pub reset-entries-each : (P : Entry → Type 0) (c : List Dot) (l : List Entry)
    → ((e : Entry) → e ∈ l → is_empty (cut_dots c (dots_in e)) ≡ false → P (cut_entry c e)) → (z : Entry) → z ∈ sift stays (cut_entry c) l → P z
unfolding cut_entry
reset-entries-each P c l f z i =
    let s = sift-means stays (cut_entry c) l i in
    let e = s.source in
    let kept : not (is_empty (dots_in (cut_entry c e))) ≡ true = ap stays (sym s.changed) ∙ s.passes in
    rw s.changed (f e s.stands (ap is_empty (sym (dots-in e.key (cut_dots c (dots_in e)) (cut_values c (values_in e)))) ∙ not-true _ kept))

-- the entries after a merge
pub merge-entries-each : (P : Entry → Type 0) (ours theirs : List Dot) {l m : List Entry} → Ascending (by (λ e. e.key)) l
    → Ascending (by (λ e. e.key)) m
    → ((e : Entry) → e ∈ l → is_empty (dots_in (cut_alone theirs e)) ≡ false → P (cut_alone theirs e))
    → ((e : Entry) → e ∈ m → is_empty (dots_in (cut_alone ours e)) ≡ false → P (cut_alone ours e))
    → ((e f : Entry) → e ∈ l → f ∈ m → e.key ≡ f.key → is_empty (dots_in (merge_both ours theirs e f)) ≡ false → P (merge_both ours theirs e f))
    → (z : Entry) → z ∈ merge_entries ours theirs l m → P z
merge-entries-each P ours theirs {l} {m} a b f g h z i =
    let r = those-means stays (woven_entries ours theirs l m) (rw (merge-sifted ours theirs l m) at i) in
    weave-every (by key) (cut_alone theirs) (cut_alone ours) (merge_both ours theirs) (by-strict key) (by-steady key)
    (λ e. is_empty (dots_in e) ≡ false → P e) a b (λ e j s. f e j) (λ e j s. g e j) (λ e e' j k s. h e e' j k (by_level key e e' s))
    z r.0 (not-true _ r.1)

pub whole-merged : (ours theirs : List Dot) {l m : List Entry} → Ascending (by (λ e. e.key)) l → Ascending (by (λ e. e.key)) m
    → ((e : Entry) → e ∈ l → Whole e) → ((e : Entry) → e ∈ m → Whole e)
    → (e : Entry) → e ∈ merge_entries ours theirs l m → Whole e
whole-merged ours theirs a b f g =
    merge-entries-each Whole ours theirs a b (λ e i s. entry-alone lawful-closed whole-made theirs e (f e i))
    (λ e i s. entry-alone lawful-closed whole-made ours e (g e i))
    (λ e f' i j q s. entry-together lawful-closed whole-made ours theirs e f' (f e i) (g f' j))

module _ {seen : List Dot} {l : List Entry} (v : ValidEntries seen l) where
  pub valid-those : (p : Entry → Bool) → ValidEntries seen (those p l)
  valid-those p = record { rising = those-ascends p v.rising; each = λ e i. v.each e (those-means p l i).0 }

  pub valid-remove : (r : Removal) → ValidEntries seen (remove_entries r l)
  unfolding remove_entries
  valid-remove r = record {
    rising = sift-ascends (by-strict key) (by-steady key) stays (remove_from r) (λ e. level_by key e (remove_from r e) (sym (from_key r e)))
        v.rising;
    each = remove-entries-each (ValidEntry seen) r l (λ e i. valid-from (v.each e i) r);
  }

  pub valid-resets : Lawful seen → (c : List Dot) → ValidEntries (cut_dots c seen) (sift stays (cut_entry c) l)
  valid-resets h c = record {
    rising = sift-ascends (by-strict key) (by-steady key) stays (cut_entry c) (λ e. level_by key e (cut_entry c e) (sym (cut-key c e))) v.rising;
    each = reset-entries-each (ValidEntry (cut_dots c seen)) c l (λ e i. valid-reset (v.each e i) h c);
  }

  module _ (h : Lawful seen) (u : Update) (n : 0 < u.dot.counter) (g : is_empty (dots_of u.put.clock) ≡ false → ValidValue u.put) where
    put-ascends : Ascending (by key) (put_entries u l)
    unfolding put_entries
    put-ascends =
        append-ascends (those-ascends (aside true u.key) v.rising)
        (next {x = put_entry u (entry_at u.key l)} (λ y i. lt-ltb _ _ (above y i)) (those-ascends (aside false u.key) v.rising))
        (λ x y i j. lt-ltb x.key y.key (⊎_elim (λ (q : y ≡ put_entry u (entry_at u.key l)). omega (arith, below x i, ap key q, placed))
        (λ k. omega (arith, below x i, above y k, placed)) (Memᴰ.cases_cons j)))
      where
        placed : (put_entry u (entry_at u.key l)).key ≡ u.key
        placed = put-key u (entry_at u.key l) ∙ at_key u.key l

        below : (x : Entry) → x ∈ those (aside true u.key) l → x.key < u.key
        below x i = ltb-true x.key u.key (those-means (aside true u.key) l i).1

        above : (y : Entry) → y ∈ those (aside false u.key) l → (put_entry u (entry_at u.key l)).key < y.key
        above y i = rw placed (ltb-true u.key y.key (those-means (aside false u.key) l i).1)

    pub valid-puts : ValidEntries (add_dot seen u.dot) (put_entries u l)
    valid-puts = record {
      rising = put-ascends;
      each =
          put-every (ValidEntry (add_dot seen u.dot)) u l (λ e i. valid-more (v.each e i) (covers-add h u.dot))
          (at_every (λ e. ValidEntry (add_dot seen u.dot) (put_entry u e)) u.key l (λ e i q. valid-put h u n g (v.each e i))
          (valid-new h u n g u.key));
    }

merge-ascends : (ours theirs : List Dot) {l m : List Entry} → Ascending (by key) l → Ascending (by key) m
    → Ascending (by key) (merge_entries ours theirs l m)
merge-ascends ours theirs {l} {m} a b =
    rw (merge-sifted ours theirs l m)
    (those-ascends stays
    (weave-ascends (by key) (cut_alone theirs) (cut_alone ours) (merge_both ours theirs) (by-strict key) (by-steady key)
    (λ e. level_by key e (cut_alone theirs e) (sym (alone-key theirs e))) (λ e. level_by key e (cut_alone ours e) (sym (alone-key ours e)))
    (λ e f s. level_by key e (merge_both ours theirs e f) (sym (together-key ours theirs e f))) a b))

pub valid-merge : {ours theirs : List Dot} {l m : List Entry} → Lawful ours → Lawful theirs → ValidEntries ours l → ValidEntries theirs m
    → ValidEntries (join_dots ours theirs) (merge_entries ours theirs l m)
valid-merge {ours} {theirs} h k v w = record {
  rising = merge-ascends ours theirs v.rising w.rising;
  each =
      merge-entries-each (ValidEntry (join_dots ours theirs)) ours theirs v.rising w.rising
      (λ e i s. valid-more (valid-alone (v.each e i) theirs s) (covers-join-left h k))
      (λ e i s. valid-more (valid-alone (w.each e i) ours s) (covers-join-right h k))
      (λ e f i j q s. valid-together h k (v.each e i) (w.each f j) s);
}
