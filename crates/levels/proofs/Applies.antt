-- An operation on a valid map leaves it valid, once over the level.
use mathlib.Core.Path.{◌≡◌, refl, ap, sym, ◌∙◌}
use mathlib.Core.Bool.{Bool, true, false, not, cond}
use mathlib.Core.Logic.{⊎_elim}
use mathlib.Core.List.Memᴰ
use mathlib.Core.List.{List, []}
use Prim.Native.Nat.{ℕ, zero, suc, ◌<◌}
use native.Mathlib.Omega.{arith}
use borrow.Author.Tests.{eq-eqb, not-true, ltb-true, lt-ltb, eqb-true, leb-false}
use lib.Dec.{ltb, leb, eqb}
use Rattle.listlaws.specs.Sift.{sift, those}
use Rattle.listlaws.specs.Order.{◌∈◌, Ascending, next, by}
use Rattle.listlaws.proofs.Orders.{by-strict}
use Rattle.listlaws.proofs.Ranks.{by-steady, level_by}
use Rattle.listlaws.proofs.Sides.{sift-ascends, append-ascends}
use Rattle.listlaws.proofs.Those.{sift-means, those-means, those-ascends}
use Rattle.listlaws.proofs.Firsts.{first-cases, first-none}
use Rattle.clock.specs.declared.Dot.{Dot}
use Rattle.clock.specs.Dots.{is_empty, counter_in, add_dot}
use Rattle.clock.specs.Lawful.{Lawful}
use Rattle.clock.proofs.Joins.{lawful-nil, lawful-add, counter-add}
use Rattle.clock.proofs.Covers.{covers-add}
use Rattle.clock.proofs.Within.{covers-nil, covers-adds}
use Rattle.clock.proofs.Empties.{counter-some}
use Rattle.register.proofs.Kept.{put-each}
use Rattle.removals.specs.declared.Removal.{Removal}
use Rattle.removals.specs.Waits.{waits, unite_into}
use Rattle.entries.specs.Valid.{ValidValue}
use Rattle.removals.specs.Valid.{ValidRemoval, ValidWaiting}
use Rattle.removals.proofs.WaitingValid.{those-valid, valid-unite-into}
use Rattle.removals.proofs.Waits.{waits-some}
use Rattle.levels.specs.MapOver.{EntryOf, MapOf, OpOf, up, rm, entry_with, stays_of}
use Rattle.levels.specs.MapOver.{remove_from_of, remove_of, entry_at_of, put_entries_of, update_map_of, apply_of, map_rules}
use Rattle.rules.specs.OneEntry.{Holds}
use Rattle.levels.specs.Level.{Val, rules_at}
use Rattle.levels.specs.Good.{GoodEntry, GoodOver, GoodAt, GoodOpOf, GoodOpAt}
use Rattle.levels.specs.Laws.{CutLaws, MergeLaws, ApplyLaws}
use Rattle.levels.proofs.Closed.{run, update-closed}
use Rattle.levels.proofs.Cuts.{cut_laws}
use Rattle.levels.proofs.Kept.{Held, merge_laws, key, held-entry, held_more, held-from, held-run, from_key, run-key}

-- an added dot is there
some-added : {l : List Dot} → Lawful l → (d : Dot) → 0 < d.counter → is_empty (add_dot l d) ≡ false
some-added {l} h d p = counter-some (add_dot l d) d.actor (rw (counter-add h d d.actor, eq-eqb d.actor d.actor refl) (omega arith))

module _ {A O : Type 0} {r : Holds A O} {Good : A → Type 0} {GoodO : O → Type 0} (laws : CutLaws r Good) (more : MergeLaws r Good)
    (acts : ApplyLaws r Good GoodO) where
  -- what is left of held entries under a change that keeps their keys
  kept : {seen : List Dot} (f : EntryOf A → EntryOf A) (l : List (EntryOf A)) → ((e : EntryOf A) → e ∈ l → Held Good seen (f e)) → (z : EntryOf A)
      → z ∈ sift stays_of f l → GoodEntry Good seen z
  kept {seen} f l h z i =
      let s = sift-means stays_of f l i in
      let k = h s.source s.stands in
      let some = not-true (is_empty z.dots) s.passes in
      let left : GoodEntry Good seen (f s.source) = record
      { clock = k.clock; some = ap (λ x. is_empty x.dots) (sym s.changed) ∙ some; covered = k.covered; val = k.val } in
      rw s.changed left

  pub map-removed : {m : MapOf A} {w : Removal} → GoodOver Good m → ValidRemoval w → GoodOver Good (remove_of r m w)
  unfolding remove_of
  map-removed {m} {w} g h = record {
    clock = g.clock;
    rising = sift-ascends (by-strict (key laws more)) (by-steady (key laws more)) stays_of (remove_from_of r w)
        (λ e. level_by (key laws more) e (remove_from_of r w e) (sym (from_key laws more w e))) g.rising;
    each = kept (remove_from_of r w) m.entries (λ e i. held-from laws more w (held-entry laws more (g.each e i)));
    waiting = go (waits m.seen w) refl;
  }
    where
      go : (b : Bool) → waits m.seen w ≡ b → ValidWaiting (cond b (unite_into m.waiting w) m.waiting)
      go true t = valid-unite-into g.waiting h (waits-some m.seen w t)
      go false t = g.waiting

  -- the entry of a key is one of the entries, or a new one
  at_every : (P : EntryOf A → Type 0) (k : ℕ) (l : List (EntryOf A)) → ((e : EntryOf A) → e ∈ l → P e) → P (entry_with k [] r.none)
      → P (entry_at_of r k l)
  unfolding entry_at_of
  at_every P k l f p =
      ⊎_elim (λ h. rw h.given (f h.found h.stands)) (λ g. rw (first-none (λ e. eqb e.key k) (λ e. e) (entry_with k [] r.none) l g) p)
      (first-cases (λ e. eqb e.key k) (λ e. e) (entry_with k [] r.none) l)

  module _ {m : MapOf A} (g : GoodOver Good m) (d : Dot) (p : 0 < d.counter) (k : ℕ) {o : O} (q : GoodO o) where
    abbrev old : EntryOf A
    old = entry_at_of r k m.entries

    abbrev fresh : EntryOf A
    fresh = entry_with old.key (add_dot old.dots d) (r.apply old.val o)

    pub old-key : old.key ≡ k
    unfolding entry_at_of
    old-key =
        ⊎_elim (λ h. rw h.given (eqb-true h.found.key k h.passes))
        (λ n. rw (first-none (λ e. eqb e.key k) (λ e. e) (entry_with k [] r.none) m.entries n))
        (first-cases (λ e. eqb e.key k) (λ e. e) (entry_with k [] r.none) m.entries)

    old-held : Held Good m.seen old
    old-held =
        at_every (Held Good m.seen) k m.entries (λ e i. held-entry laws more (g.each e i))
        (record { clock = lawful-nil; covered = covers-nil m.seen; val = more.none })

    fresh-held : Held Good (add_dot m.seen d) fresh
    fresh-held = record {
      clock = lawful-add old-held.clock d;
      covered = covers-adds g.clock old-held.clock old-held.covered d;
      val = acts.applied old-held.val q;
    }

    -- what stands among put entries
    put-every : (P : EntryOf A → Type 0) → ((e : EntryOf A) → e ∈ m.entries → P e) → P fresh → (e : EntryOf A)
        → e ∈ put_entries_of r d k o m.entries → P e
    unfolding put_entries_of
    put-every P f h e i =
        ⊎_elim (λ j. f e (those-means (λ x. ltb x.key k) m.entries j).0)
        (λ j. ⊎_elim (λ (s : e ≡ fresh). rw s h) (λ s. f e (those-means (λ x. ltb k x.key) m.entries s).0) (Memᴰ.cases_cons j))
        (Memᴰ.append_cases (those (λ x. ltb x.key k) m.entries) i)

    pub put-held : (e : EntryOf A) → e ∈ put_entries_of r d k o m.entries → Held Good (add_dot m.seen d) e
    put-held =
        put-every (Held Good (add_dot m.seen d))
        (λ e i. held_more laws more (covers-add g.clock d) (held-entry laws more (g.each e i))) fresh-held

    pub put-stays : (e : EntryOf A) → e ∈ put_entries_of r d k o m.entries → stays_of e ≡ true
    put-stays = put-every (λ e. stays_of e ≡ true) (λ e i. ap not (g.each e i).some) (ap not (some-added old-held.clock d p))

    put-ascends : Ascending (by (key laws more)) (put_entries_of r d k o m.entries)
    unfolding put_entries_of
    put-ascends =
        append-ascends (those-ascends (λ x. ltb x.key k) g.rising)
        (next {x = fresh} (λ y i. lt-ltb old.key y.key (omega (arith, old-key, above y i))) (those-ascends (λ x. ltb k x.key) g.rising))
        (λ x y i j. lt-ltb x.key y.key
        (⊎_elim (λ (s : y ≡ fresh). omega (arith, below x i, old-key, ap (λ e. e.key) s)) (λ s. omega (arith, below x i, above y s))
        (Memᴰ.cases_cons j)))
      where
        below : (x : EntryOf A) → x ∈ those (λ x. ltb x.key k) m.entries → x.key < k
        below x i = ltb-true x.key k (those-means (λ x. ltb x.key k) m.entries i).1

        above : (y : EntryOf A) → y ∈ those (λ x. ltb k x.key) m.entries → k < y.key
        above y i = ltb-true k y.key (those-means (λ x. ltb k x.key) m.entries i).1

    map-updated : GoodOver Good (update_map_of r m d k o)
    map-updated = go (leb d.counter (counter_in m.seen d.actor)) refl
      where
        new : counter_in m.seen d.actor < d.counter → GoodOver Good (update_map_of r m d k o)
        new u = rw (update-closed r m d k o g.waiting.rising put-stays u) (record {
          clock = lawful-add g.clock d;
          rising = sift-ascends (by-strict (key laws more)) (by-steady (key laws more)) stays_of (run r m.waiting)
              (λ e. level_by (key laws more) e (run r m.waiting e) (sym (run-key laws more m.waiting e))) put-ascends;
          each = kept (run r m.waiting) (put_entries_of r d k o m.entries) (λ e i. held-run laws more m.waiting (put-held e i));
          waiting = those-valid (waits (add_dot m.seen d)) g.waiting;
        })

        go : (b : Bool) → leb d.counter (counter_in m.seen d.actor) ≡ b → GoodOver Good (update_map_of r m d k o)
        go true t = unfold update_map_of in rw t g
        go false t = new (leb-false d.counter (counter_in m.seen d.actor) t)

  map-applied : {m : MapOf A} (o : OpOf O) → GoodOver Good m → GoodOpOf GoodO o → GoodOver Good (apply_of r m o)
  map-applied (up d k o) g h = map-updated g d h.0 k h.1
  map-applied (rm w) g h = map-removed g h

  map_applies : ApplyLaws (map_rules r) (GoodOver Good) (GoodOpOf GoodO)
  unfolding map_rules
  map_applies = record { applied = λ {v} {o} g h. map-applied o g h }

-- at every level
pub apply_laws : (n : ℕ) → ApplyLaws (rules_at n) (GoodAt n) (GoodOpAt n)
unfolding rules_at
apply_laws zero = record { applied = λ {v} {o} g h. put-each ValidValue v o g h }
apply_laws (suc n) = map_applies (cut_laws n) (merge_laws n) (apply_laws n)

-- a removal, at every level
pub removal-good : (n : ℕ) {m : Val (suc n)} {w : Removal} → GoodAt (suc n) m → ValidRemoval w → GoodAt (suc n) (remove_of (rules_at n) m w)
removal-good n g h = map-removed (cut_laws n) (merge_laws n) (apply_laws n) g h
