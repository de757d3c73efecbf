-- A merge of valid maps is valid, once over the level.
use mathlib.Core.Path.{◌≡◌, refl, ap, sym, ◌∙◌}
use mathlib.Core.Bool.{Bool, true, false, cond}
use mathlib.Core.List.Memᴰ
use mathlib.Core.List.{List, [], ◌∷◌}
use Prim.Native.Nat.{ℕ, zero, suc}
use borrow.Author.Tests.{not-true}
use Rattle.listlaws.specs.Sift.{sift, those}
use Rattle.listlaws.specs.Fold.{fold}
use Rattle.listlaws.specs.Order.{◌∈◌, Ascending, nil, by}
use Rattle.listlaws.proofs.Orders.{by-strict}
use Rattle.listlaws.proofs.Ranks.{by-steady, level_by}
use Rattle.listlaws.proofs.Sides.{sift-ascends}
use Rattle.listlaws.proofs.Those.{sift-means}
use Rattle.listlaws.proofs.Woven.{weave-ascends, weave-every}
use Rattle.clock.specs.declared.Dot.{Dot}
use Rattle.clock.specs.Dots.{is_empty, covers, cut_dots, join_dots}
use Rattle.clock.specs.Lawful.{Lawful}
use Rattle.clock.proofs.Cuts.{lawful-cut}
use Rattle.clock.proofs.Joins.{lawful-nil, lawful-join}
use Rattle.clock.proofs.Covers.{covers-trans, covers-cut, covers-join-left, covers-join-right}
use Rattle.clock.proofs.Within.{covers-joins}
use Rattle.register.proofs.Kept.{merge-each}
use Rattle.removals.specs.declared.Removal.{Removal}
use Rattle.removals.specs.Model.{under_of, listed_in}
use Rattle.removals.specs.Waits.{listed, waits, unite_all}
use Rattle.rules.specs.OneEntry.{Holds}
use Rattle.entries.specs.Valid.{ValidValue}
use Rattle.removals.proofs.WaitingValid.{unite-valid, those-valid, valid-none}
use Rattle.entries.proofs.ClocksFit.{lawful-keep, covers-keep}
use Rattle.levels.specs.MapOver.{EntryOf, MapOf, stays_of, cut_entry_of, remove_from_of, cut_alone_of, merge_both_of, merge_of, map_rules}
use Rattle.levels.specs.Level.{rules_at}
use Rattle.levels.specs.Good.{GoodEntry, GoodOver, GoodAt}
use Rattle.levels.specs.Laws.{CutLaws, MergeLaws}
use Rattle.levels.proofs.Closed.{run}
use Rattle.levels.proofs.Cuts.{cut_laws}
use Rattle.levels.proofs.Merges.{woven, merge-closed}

-- an entry, whose clock may be empty, under a map's clock
pub record Held {A : Type 0} (Good : A → Type 0) (seen : List Dot) (e : EntryOf A) : Type 0 where
  pub clock : Lawful e.dots
  pub covered : covers seen e.dots ≡ true
  pub val : Good e.val

module _ {A O : Type 0} {r : Holds A O} {Good : A → Type 0} (laws : CutLaws r Good) (more : MergeLaws r Good) where
  abbrev pub key : EntryOf A → ℕ
  key e = e.key

  pub held-entry : {seen : List Dot} {e : EntryOf A} → GoodEntry Good seen e → Held Good seen e
  held-entry g = record { clock = g.clock; covered = g.covered; val = g.val }

  pub held_more : {seen wide : List Dot} {e : EntryOf A} → covers wide seen ≡ true → Held Good seen e → Held Good wide e
  held_more {seen} {wide} t h = record { clock = h.clock; covered = covers-trans wide seen _ t h.covered; val = h.val }

  held_cut : (c : List Dot) {seen : List Dot} {e : EntryOf A} → Held Good seen e → Held Good seen (cut_entry_of r c e)
  unfolding cut_entry_of
  held_cut c {seen} {e} h = record {
    clock = lawful-cut c h.clock;
    covered = covers-trans seen e.dots _ h.covered (covers-cut c h.clock);
    val = laws.good c h.val;
  }

  pub held-from : (w : Removal) {seen : List Dot} {e : EntryOf A} → Held Good seen e → Held Good seen (remove_from_of r w e)
  unfolding remove_from_of
  held-from w {seen} {e} h = go (listed (listed_in w) e.key)
    where
      go : (b : Bool) → Held Good seen (cond b (cut_entry_of r (under_of w) e) e)
      go true = held_cut (under_of w) h
      go false = h

  pub held-run : (ws : List Removal) {seen : List Dot} {e : EntryOf A} → Held Good seen e → Held Good seen (run r ws e)
  unfolding fold
  held-run [] h = h
  held-run (w ∷ ws) h = held-run ws (held-from w h)

  pub from_key : (w : Removal) (e : EntryOf A) → (remove_from_of r w e).key ≡ e.key
  unfolding remove_from_of cut_entry_of
  from_key w e = go (listed (listed_in w) e.key)
    where
      go : (b : Bool) → (cond b (cut_entry_of r (under_of w) e) e).key ≡ e.key
      go true = refl
      go false = refl

  pub run-key : (ws : List Removal) (e : EntryOf A) → (run r ws e).key ≡ e.key
  unfolding fold
  run-key [] e = refl
  run-key (w ∷ ws) e = run-key ws (remove_from_of r w e) ∙ from_key w e

  held-alone : (other : List Dot) {seen : List Dot} {e : EntryOf A} → Held Good seen e → Held Good seen (cut_alone_of r other e)
  unfolding cut_alone_of
  held-alone other {seen} {e} h = record {
    clock = lawful-cut other h.clock;
    covered = covers-trans seen e.dots _ h.covered (covers-cut other h.clock);
    val = laws.good (cut_dots (cut_dots other e.dots) other) h.val;
  }

  module _ {ours theirs : List Dot} (a : Lawful ours) (b : Lawful theirs) where
    held-together : {e f : EntryOf A} → Held Good ours e → Held Good theirs f → Held Good (join_dots ours theirs) (merge_both_of r ours theirs e f)
    unfolding merge_both_of
    held-together {e} {f} h k =
        let keep = lawful-keep ours theirs h.clock k.clock in
        record {
          clock = keep;
          covered = covers-trans (join_dots ours theirs) (join_dots e.dots f.dots) _
              (covers-joins a b h.clock k.clock h.covered k.covered) (covers-keep ours theirs h.clock k.clock);
          val = laws.good _ (more.merged h.val k.val);
        }

  module _ {m n : MapOf A} (g : GoodOver Good m) (h : GoodOver Good n) where
    abbrev joined : List Dot
    joined = join_dots m.seen n.seen

    woven-ascends : Ascending (by key) (woven laws m n)
    woven-ascends =
        weave-ascends (by key) (cut_alone_of r n.seen) (cut_alone_of r m.seen) (merge_both_of r m.seen n.seen) (by-strict key) (by-steady key)
        (λ e. unfold cut_alone_of in level_by key e (cut_alone_of r n.seen e) refl)
        (λ e. unfold cut_alone_of in level_by key e (cut_alone_of r m.seen e) refl)
        (λ e f s. unfold merge_both_of in level_by key e (merge_both_of r m.seen n.seen e f) refl) g.rising h.rising

    woven-held : (e : EntryOf A) → e ∈ woven laws m n → Held Good joined e
    woven-held =
        weave-every (by key) (cut_alone_of r n.seen) (cut_alone_of r m.seen) (merge_both_of r m.seen n.seen) (by-strict key) (by-steady key)
        (Held Good joined) g.rising h.rising
        (λ e i s. held_more (covers-join-left g.clock h.clock) (held-alone n.seen (held-entry (g.each e i))))
        (λ e i s. held_more (covers-join-right g.clock h.clock) (held-alone m.seen (held-entry (h.each e i))))
        (λ e f i j s. held-together g.clock h.clock (held-entry (g.each e i)) (held-entry (h.each f j)))

    pub closed : merge_of r m n ≡ record {
      seen = joined;
      entries = sift stays_of (λ e. run r m.waiting (run r n.waiting e))
          (woven laws m n);
      waiting = unite_all (those (waits joined) m.waiting) (those (waits joined) n.waiting);
    }
    closed =
        merge-closed laws m n g.clock h.clock g.waiting h.waiting
        (λ e i. let k = woven-held e i in record { clock = k.clock; val = k.val })

    pub map-merged : GoodOver Good (merge_of r m n)
    map-merged = rw closed (record {
      clock = lawful-join g.clock h.clock;
      rising = sift-ascends (by-strict key) (by-steady key) stays_of both
          (λ e. level_by key e (both e) (sym (run-key m.waiting (run r n.waiting e) ∙ run-key n.waiting e))) woven-ascends;
      each = λ z i.
          let s = sift-means stays_of both (woven laws m n) i in
          let k = held-run m.waiting (held-run n.waiting (woven-held s.source s.stands)) in
          let some = not-true (is_empty z.dots) s.passes in
          let left : GoodEntry Good joined
          (both s.source) = record
          { clock = k.clock; some = ap (λ x. is_empty x.dots) (sym s.changed) ∙ some; covered = k.covered; val = k.val } in
          rw s.changed left;
      waiting = unite-valid (those-valid (waits joined) g.waiting) (those-valid (waits joined) h.waiting);
    })
      where
        both : EntryOf A → EntryOf A
        both e = run r m.waiting (run r n.waiting e)

  map_merges : MergeLaws (map_rules r) (GoodOver Good)
  unfolding map_rules
  map_merges = record {
    none = record { clock = lawful-nil; rising = nil; each = λ e i. absurd (Memᴰ.not-nil i); waiting = valid-none };
    merged = λ g h. map-merged g h;
  }

-- at every level
pub merge_laws : (n : ℕ) → MergeLaws (rules_at n) (GoodAt n)
unfolding rules_at
merge_laws zero = record { none = λ v i. absurd (Memᴰ.not-nil i); merged = λ {v} {w} g h. merge-each ValidValue v w g h }
merge_laws (suc n) = map_merges (cut_laws n) (merge_laws n)
