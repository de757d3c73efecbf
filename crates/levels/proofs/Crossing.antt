-- "An update also trades places with a removal not listing its key": over the level, whatever the rest of the update's path does below that key.
use mathlib.Core.Path.{◌≡◌, refl, ap, ap₂, sym, ◌∙◌}
use mathlib.Core.Bool.{Bool, true, false, not, cond}
use mathlib.Core.List.Memᴰ
use mathlib.Core.List.{List, [], ◌∷◌, ◌++◌}
use Prim.Native.Nat.{ℕ, suc, ◌<◌}
use borrow.Author.Tests.{not-false, eqb-true, leb-false}
use lib.Dec.{ltb, leb, eqb}
use Rattle.listlaws.specs.Sift.{sift, those}
use Rattle.listlaws.specs.First.{first_in}
use Rattle.listlaws.specs.Fold.{fold}
use Rattle.listlaws.specs.Order.{◌∈◌}
use Rattle.listlaws.proofs.Orders.{apart}
use Rattle.listlaws.proofs.Sides.{one-ascends}
use Rattle.listlaws.proofs.Sifts.{sift-append}
use Rattle.listlaws.proofs.Twice.{sift-same, sift-sift}
use Rattle.clock.specs.declared.Dot.{Dot}
use Rattle.clock.specs.Dots.{counter_in, covers, cut_dots, add_dot}
use Rattle.clock.proofs.Covers.{covers-trans, covers-add}
use Rattle.clock.proofs.Joins.{cut-cut, join-again}
use Rattle.removals.specs.declared.Removal.{Removal}
use Rattle.removals.specs.Model.{under_of, listed_in}
use Rattle.removals.specs.Waits.{listed, waits, unite_all, unite_into}
use Rattle.removals.specs.Valid.{ValidRemoval}
use Rattle.removals.proofs.Waits.{waits-covers, waits-same, waits-some}
use Rattle.removals.proofs.Uniting.{unite-those, unite-nil}
use Rattle.removals.proofs.WaitingValid.{valid-one}
use Rattle.levels.specs.MapOver.{EntryOf, MapOf, entry_with, stays_of, cut_entry_of, remove_from_of}
use Rattle.levels.specs.MapOver.{remove_of, entry_at_of, put_entry_of, put_entries_of, update_map_of, map_with}
use Rattle.rules.specs.OneEntry.{Holds}
use Rattle.levels.specs.Level.{Val, Op, rules_at}
use Rattle.levels.specs.Good.{GoodOver, GoodAt, GoodOpAt}
use Rattle.levels.specs.Laws.{CutLaws, MergeLaws, ApplyLaws}
use Rattle.levels.proofs.Cuts.{cut_laws}
use Rattle.levels.proofs.Closed.{run, dropped, run-gone, update-closed}
use Rattle.levels.proofs.Kept.{merge_laws, from_key}
use Rattle.levels.proofs.Merges.{WholeOf, whole_from, run-whole, run-from, run-unite}
use Rattle.levels.proofs.Applies.{apply_laws, put-held, put-stays, old-key, map-removed}

-- sifting and choosing by what a change leaves alone
those-sift : {A : Type 0} (p keep : A → Bool) (f : A → A) → ((x : A) → p (f x) ≡ p x) → (l : List A) → those p (sift keep f l)
    ≡ sift keep f (those p l)
unfolding sift
those-sift p keep f e [] = refl
those-sift p keep f e (x ∷ l) = go (keep (f x)) (p x) refl refl (those-sift p keep f e l)
  where
    go : (a b : Bool) → keep (f x) ≡ a → p x ≡ b → those p (sift keep f l) ≡ sift keep f (those p l)
        → those p (cond a (f x ∷ sift keep f l) (sift keep f l)) ≡ sift keep f (cond b (x ∷ those p l) (those p l))
    go true true s t h = rw (e x, s, t) (ap (λ m. f x ∷ m) h)
    go true false s t h = rw (e x, t) h
    go false true s t h = rw s h
    go false false s t h = h

module _ {A O : Type 0} {r : Holds A O} {Good : A → Type 0} {GoodO : O → Type 0} (laws : CutLaws r Good) (more : MergeLaws r Good)
    (acts : ApplyLaws r Good GoodO) where
  from-other : (w : Removal) (e : EntryOf A) → listed (listed_in w) e.key ≡ false → remove_from_of r w e ≡ e
  unfolding remove_from_of
  from-other w e t = rw t

  -- a removal twice is a removal
  from-again : {w : Removal} → ValidRemoval w → {e : EntryOf A} → WholeOf Good e → remove_from_of r w (remove_from_of r w e) ≡ remove_from_of r w e
  unfolding remove_from_of cut_entry_of
  from-again {w} h {e} g = go (listed (listed_in w) e.key) refl
    where
      go : (b : Bool) → listed (listed_in w) e.key ≡ b → remove_from_of r w (cond b (cut_entry_of r (under_of w) e) e)
          ≡ cond b (cut_entry_of r (under_of w) e) e
      go true t = rw t (ap₂ (entry_with e.key)
          (cut-cut h.clock h.clock e.dots ∙ ap (λ c. cut_dots c e.dots) (join-again h.clock))
          (laws.both h.clock h.clock g.val ∙ ap (λ c. r.cut c e.val) (join-again h.clock)))
      go false t = rw t

  module _ {m : MapOf A} (g : GoodOver Good m) (d : Dot) (p : 0 < d.counter) (k : ℕ) {o : O} (q : GoodO o) {w : Removal} (h : ValidRemoval w)
      (off : listed (listed_in w) k ≡ false) where
    abbrev left : List (EntryOf A)
    left = sift stays_of (remove_from_of r w) m.entries

    -- the entry of the update's key is left alone
    at_left : (l : List (EntryOf A)) → ((e : EntryOf A) → e ∈ l → stays_of e ≡ true) → entry_at_of r k (sift stays_of (remove_from_of r w) l)
        ≡ entry_at_of r k l
    unfolding entry_at_of sift first_in
    at_left [] f = refl
    at_left (x ∷ l) f = go (eqb x.key k) (stays_of (remove_from_of r w x)) refl refl (at_left l (λ e i. f e (Memᴰ.tail i)))
      where
        go : (a b : Bool) → eqb x.key k ≡ a → stays_of (remove_from_of r w x) ≡ b → entry_at_of r k (sift stays_of (remove_from_of r w) l)
            ≡ entry_at_of r k l
            → entry_at_of r k (cond b (remove_from_of r w x ∷ sift stays_of (remove_from_of r w) l) (sift stays_of (remove_from_of r w) l))
            ≡ cond a x (entry_at_of r k l)
        go true true s t u =
            let same = from-other w x (ap (listed (listed_in w)) (eqb-true x.key k s) ∙ off) in
            rw (same, s)
        go true false s t u =
            let same = from-other w x (ap (listed (listed_in w)) (eqb-true x.key k s) ∙ off) in
            apart (sym (f x (Memᴰ.head refl)) ∙ ap stays_of (sym same) ∙ t)
        go false true s t u = rw (from_key laws more w x, s) u
        go false false s t u = u

    abbrev fresh : EntryOf A
    fresh = put_entry_of r d o (entry_at_of r k m.entries)

    entries-stay : (e : EntryOf A) → e ∈ m.entries → stays_of e ≡ true
    entries-stay e i = ap not (g.each e i).some

    fresh-same : remove_from_of r w fresh ≡ fresh
    fresh-same = from-other w fresh (ap (listed (listed_in w)) (old-key laws more acts g d p k q) ∙ off)

    fresh-stays : stays_of fresh ≡ true
    fresh-stays =
        put-stays laws more acts g d p k q fresh
        (unfold put_entries_of in Memᴰ.append_right (those (λ x. ltb x.key k) m.entries) (Memᴰ.head refl))

    put-left : put_entries_of r d k o left ≡ sift stays_of (remove_from_of r w) (put_entries_of r d k o m.entries)
    unfolding put_entries_of
    put-left =
        let below = those-sift (λ x. ltb x.key k) stays_of (remove_from_of r w) (λ x. ap (λ y. ltb y k) (from_key laws more w x)) m.entries in
        let above = those-sift (λ x. ltb k x.key) stays_of (remove_from_of r w) (λ x. ap (λ y. ltb k y) (from_key laws more w x)) m.entries in
        let one = ap (put_entry_of r d o) (at_left m.entries entries-stay) in
        (λ i. below i ++ (one i ∷ above i))
        ∙ ap (λ l. sift stays_of (remove_from_of r w) (those (λ x. ltb x.key k) m.entries) ++ l) (sym kept)
        ∙ sym (sift-append stays_of (remove_from_of r w) (those (λ x. ltb x.key k) m.entries) (fresh ∷ those (λ x. ltb k x.key) m.entries))
      where
        kept : sift stays_of (remove_from_of r w) (fresh ∷ those (λ x. ltb k x.key) m.entries)
            ≡ fresh ∷ sift stays_of (remove_from_of r w) (those (λ x. ltb k x.key) m.entries)
        kept = unfold sift in rw (fresh-same, fresh-stays)

    abbrev waiting : List Removal
    waiting = cond (waits m.seen w) (unite_into m.waiting w) m.waiting

    each_left : {e : EntryOf A} → WholeOf Good e → run r waiting (remove_from_of r w e) ≡ remove_from_of r w (run r m.waiting e)
    each_left {e} f = go (waits m.seen w) refl
      where
        go : (b : Bool) → waits m.seen w ≡ b → run r (cond b (unite_into m.waiting w) m.waiting) (remove_from_of r w e)
            ≡ remove_from_of r w (run r m.waiting e)
        go true t =
            run-unite laws g.waiting (valid-one h (waits-some m.seen w t)) (whole_from laws w e f)
            ∙ (unfold fold in ap (remove_from_of r w) (sym (run-from laws w m.waiting f)) ∙ from-again h (run-whole laws m.waiting f))
        go false t = sym (run-from laws w m.waiting f)

    abbrev grown : List Dot
    grown = add_dot m.seen d

    waiting-left : cond (waits grown w) (unite_into (those (waits grown) m.waiting) w) (those (waits grown) m.waiting)
        ≡ those (waits grown) waiting
    waiting-left = go (waits m.seen w) (waits grown w) refl refl
      where
        one : (b : Bool) → waits grown w ≡ b → those (waits grown) (w ∷ []) ≡ cond b (w ∷ []) []
        one b t = unfold sift in rw t

        both : those (waits grown) (unite_into m.waiting w) ≡ unite_all (those (waits grown) m.waiting) (those (waits grown) (w ∷ []))
        both = unite-those g.waiting.rising (one-ascends w) (waits grown) (λ x y e. waits-same grown x y e)

        go : (a b : Bool) → waits m.seen w ≡ a → waits grown w ≡ b
            → cond b (unite_into (those (waits grown) m.waiting) w) (those (waits grown) m.waiting)
            ≡ those (waits grown) (cond a (unite_into m.waiting w) m.waiting)
        go true true s t = sym (both ∙ ap (unite_all (those (waits grown) m.waiting)) (one true t))
        go true false s t = sym (both ∙ ap (unite_all (those (waits grown) m.waiting)) (one false t) ∙ unite-nil (those (waits grown) m.waiting))
        go false true s t =
            apart (sym t ∙ waits-covers grown w
            ∙ ap not (covers-trans grown m.seen (under_of w) (covers-add g.clock d)
            (not-false (covers m.seen (under_of w)) (sym (waits-covers m.seen w) ∙ s))))
        go false false s t = refl

    pub unseen-trades : counter_in m.seen d.actor < d.counter → remove_of r (update_map_of r m d k o) w ≡ update_map_of r (remove_of r m w) d k o
    unfolding remove_of
    unseen-trades u =
        ap (λ x. remove_of r x w) (update-closed r m d k o g.waiting.rising (put-stays laws more acts g d p k q) u)
        ∙ middle
        ∙ sym (update-closed r (remove_of r m w) d k o good.waiting.rising (put-stays laws more acts good d p k q) u)
      where
        good : GoodOver Good (remove_of r m w)
        good = map-removed laws more acts g h

        entries : sift stays_of (remove_from_of r w) (sift stays_of (run r m.waiting) (put_entries_of r d k o m.entries))
            ≡ sift stays_of (run r waiting) (put_entries_of r d k o left)
        entries =
            sift-sift stays_of (run r m.waiting) (remove_from_of r w) (put_entries_of r d k o m.entries)
            (λ e i t. dropped r w (run r m.waiting e) t)
            ∙ sift-same stays_of _ _ (put_entries_of r d k o m.entries)
            (λ e i. let f = put-held laws more acts g d p k q e i in sym (each_left (record { clock = f.clock; val = f.val })))
            ∙ sym (sift-sift stays_of (remove_from_of r w) (run r waiting) (put_entries_of r d k o m.entries)
            (λ e i t. run-gone r waiting (remove_from_of r w e) t))
            ∙ ap (sift stays_of (run r waiting)) (sym put-left)

        middle : remove_of r (map_with grown (sift stays_of (run r m.waiting) (put_entries_of r d k o m.entries))
            (those (waits grown) m.waiting)) w
            ≡ map_with grown (sift stays_of (run r waiting) (put_entries_of r d k o left)) (those (waits grown) waiting)
        middle = λ i. map_with grown (entries i) (waiting-left i)

    -- seen or not
    pub trades : remove_of r (update_map_of r m d k o) w ≡ update_map_of r (remove_of r m w) d k o
    trades = go (leb d.counter (counter_in m.seen d.actor)) refl
      where
        go : (b : Bool) → leb d.counter (counter_in m.seen d.actor) ≡ b → remove_of r (update_map_of r m d k o) w
            ≡ update_map_of r (remove_of r m w) d k o
        go true t = unfold update_map_of remove_of in rw t
        go false t = unseen-trades (leb-false d.counter (counter_in m.seen d.actor) t)

-- at every level: an update below key k, and a removal of other keys of the top map
pub update-trades : (n : ℕ) {m : Val (suc n)} → GoodAt (suc n) m → (d : Dot) → 0 < d.counter → (k : ℕ) (o : Op n) → GoodOpAt n o → {w : Removal}
    → ValidRemoval w
    → listed (listed_in w) k ≡ false → remove_of (rules_at n) (update_map_of (rules_at n) m d k o) w
    ≡ update_map_of (rules_at n) (remove_of (rules_at n) m w) d k o
update-trades n g d p k o q h off = trades (cut_laws n) (merge_laws n) (apply_laws n) g d p k q h off
