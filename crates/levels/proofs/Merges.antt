-- The closed form of a merge, once over the level: both maps' entries woven, each with their waiting removals and then ours.
use mathlib.Core.Path.{◌≡◌, refl, ap, ap₂, sym, ◌∙◌}
use mathlib.Core.Bool.{Bool, true, false, not, cond, ◌&&◌}
use mathlib.Core.Logic.{⊎_elim}
use mathlib.Core.List.Memᴰ
use mathlib.Core.List.{List, [], ◌∷◌, ◌++◌, map}
use Prim.Native.Nat.{ℕ}
use native.Mathlib.Omega.{arith}
use borrow.Author.Tests.{not-false}
use Rattle.listlaws.specs.Sift.{sift, those}
use Rattle.listlaws.specs.Fold.{fold}
use Rattle.listlaws.specs.Order.{◌∈◌, Ascending}
use Rattle.listlaws.proofs.Folds.{fold-append}
use Rattle.listlaws.proofs.Those.{those-means, those-ascends, those-same, those-those}
use Rattle.listlaws.proofs.Twice.{sift-same, sift-map}
use Rattle.clock.specs.declared.Dot.{Dot}
use Rattle.clock.specs.Dots.{counter_in, covers, join_dots}
use Rattle.clock.specs.Lawful.{Lawful}
use Rattle.clock.proofs.Counters.{same-clock}
use Rattle.clock.proofs.Covers.{covers-trans, covers-join-left}
use Rattle.clock.proofs.Cuts.{cut-none, lawful-cut}
use Rattle.clock.proofs.Joins.{cut-cut}
use Rattle.removals.specs.declared.Removal.{Removal}
use Rattle.removals.specs.Model.{under_of, listed_in}
use Rattle.removals.specs.Waits.{listed, waits, removal_before, unite_all}
use Rattle.removals.specs.Valid.{ValidWaiting}
use Rattle.removals.proofs.ListingClocks.{sup_of, Clocked, Bounded, lawful-sup, sup-above, sup_least, sup-listed}
use Rattle.removals.proofs.ListingClocks.{sup-other, clocked-valid, clocked-append, clocked-those, unite-below, unite-above}
use Rattle.removals.proofs.Waits.{waits-covers, waits-same}
use Rattle.removals.proofs.Uniting.{unite-behind, unite-afresh, unite-those, unite-ascends}
use Rattle.removals.proofs.WaitingValid.{unite-valid, those-valid}
use Rattle.levels.specs.MapOver.{EntryOf, MapOf, entry_with, stays_of, cut_entry_of, remove_from_of, remove_of, afresh_of, merge_of, map_with}
use Rattle.rules.specs.OneEntry.{Holds}
use Rattle.levels.specs.Laws.{CutLaws}
use Rattle.levels.proofs.Closed.{run, runs, removes, removes-run}
use Rattle.levels.proofs.Removes.{from-trade}
use Rattle.levels.proofs.Leaves.{woven_of, merge-sifted}

sup-same : {ws vs : List Removal} → Clocked ws → Clocked vs → (k : ℕ) → Bounded ws vs k → Bounded vs ws k → sup_of ws k ≡ sup_of vs k
sup-same {ws} {vs} f g k p q =
    same-clock (lawful-sup f k) (lawful-sup g k)
    (λ a. omega (arith, sup_least f k a (counter_in (sup_of vs k) a) (p a), sup_least g k a (counter_in (sup_of ws k) a) (q a)))

-- an entry under a clock that may be empty
pub record WholeOf {A : Type 0} (Good : A → Type 0) (e : EntryOf A) : Type 0 where
  pub clock : Lawful e.dots
  pub val : Good e.val

module _ {A O : Type 0} {r : Holds A O} {Good : A → Type 0} (laws : CutLaws r Good) where
  abbrev Whole : EntryOf A → Type 0
  Whole e = WholeOf Good e

  whole-cut : (c : List Dot) {e : EntryOf A} → Whole e → Whole (cut_entry_of r c e)
  unfolding cut_entry_of
  whole-cut c h = record { clock = lawful-cut c h.clock; val = laws.good c h.val }

  module _ (w : Removal) (e : EntryOf A) where
    from : (P : EntryOf A → Type 0) → P (cut_entry_of r (under_of w) e) → P e → P (remove_from_of r w e)
    unfolding remove_from_of
    from P p q = go (listed (listed_in w) e.key)
      where
        go : (b : Bool) → P (cond b (cut_entry_of r (under_of w) e) e)
        go true = p
        go false = q

    from_key : (remove_from_of r w e).key ≡ e.key
    from_key = unfold cut_entry_of in from (λ x. x.key ≡ e.key) refl refl

    pub whole_from : Whole e → Whole (remove_from_of r w e)
    whole_from h = from Whole (whole-cut (under_of w) h) h

  from-listed : (w : Removal) (e : EntryOf A) → listed (listed_in w) e.key ≡ true → remove_from_of r w e ≡ cut_entry_of r (under_of w) e
  unfolding remove_from_of
  from-listed w e t = rw t

  from-other : (w : Removal) (e : EntryOf A) → listed (listed_in w) e.key ≡ false → remove_from_of r w e ≡ e
  unfolding remove_from_of
  from-other w e t = rw t

  tail-clocked : {w : Removal} {ws : List Removal} → Clocked (w ∷ ws) → Clocked ws
  tail-clocked f v i = f v (Memᴰ.tail i)

  pub run-whole : (ws : List Removal) {e : EntryOf A} → Whole e → Whole (run r ws e)
  unfolding fold
  run-whole [] h = h
  run-whole (w ∷ ws) {e} h = run-whole ws (whole_from w e h)

  -- a run is one cut
  pub run-closed : (ws : List Removal) {e : EntryOf A} → Clocked ws → Whole e → run r ws e ≡ cut_entry_of r (sup_of ws e.key) e
  unfolding fold
  run-closed [] {e} f h = unfold sup_of sift cut_entry_of in sym (ap₂ (entry_with e.key) (cut-none h.clock) (laws.none h.val))
  run-closed (w ∷ ws) {e} f h = go (listed (listed_in w) e.key) refl (run-closed ws (tail-clocked f) (whole_from w e h))
    where
      twice : Lawful (sup_of ws e.key) → cut_entry_of r (sup_of ws e.key) (cut_entry_of r (under_of w) e)
          ≡ cut_entry_of r (join_dots (under_of w) (sup_of ws e.key)) e
      twice s =
          unfold cut_entry_of in ap₂ (entry_with e.key) (cut-cut (f w (Memᴰ.head refl)) s e.dots)
          (laws.both (f w (Memᴰ.head refl)) s h.val)

      go : (b : Bool) → listed (listed_in w) e.key ≡ b → run r ws (remove_from_of r w e)
          ≡ cut_entry_of r (sup_of ws (remove_from_of r w e).key) (remove_from_of r w e) → run r ws (remove_from_of r w e)
          ≡ cut_entry_of r (sup_of (w ∷ ws) e.key) e
      go true t q =
          q ∙ ap (λ x. cut_entry_of r (sup_of ws x) (remove_from_of r w e)) (from_key w e) ∙ ap (cut_entry_of r (sup_of ws e.key)) (from-listed w e t)
          ∙ twice (lawful-sup (tail-clocked f) e.key)
          ∙ ap (λ c. cut_entry_of r c e) (sym (sup-listed f e.key t))
      go false t q =
          q ∙ ap (λ x. cut_entry_of r (sup_of ws x.key) x) (from-other w e t) ∙ ap (λ c. cut_entry_of r c e) (sym (sup-other w ws e.key t))

  run-bounded : {ws vs : List Removal} {e : EntryOf A} → Clocked ws → Clocked vs → Whole e → Bounded ws vs e.key → Bounded vs ws e.key
      → run r ws e ≡ run r vs e
  run-bounded {ws} {vs} {e} f g h p q =
      run-closed ws f h ∙ ap (λ c. cut_entry_of r c e) (sup-same f g e.key p q) ∙ sym (run-closed vs g h)

  run-append : (ws vs : List Removal) (e : EntryOf A) → run r (ws ++ vs) e ≡ run r vs (run r ws e)
  run-append ws vs e = fold-append (λ x w. remove_from_of r w x) e ws vs

  pub run-from : (w : Removal) (vs : List Removal) {e : EntryOf A} → Whole e → remove_from_of r w (run r vs e) ≡ run r vs (remove_from_of r w e)
  unfolding fold
  run-from w [] h = refl
  run-from w (v ∷ vs) {e} h = run-from w vs (whole_from v e h) ∙ ap (run r vs) (from-trade laws w v e h.val)

  pub run-trade : (ws vs : List Removal) {e : EntryOf A} → Whole e → run r ws (run r vs e) ≡ run r vs (run r ws e)
  unfolding fold
  run-trade [] vs h = refl
  run-trade (w ∷ ws) vs {e} h = ap (run r ws) (run-from w vs h) ∙ run-trade ws vs (whole_from w e h)

  pub run-unite : {l m : List Removal} {e : EntryOf A} → ValidWaiting l → ValidWaiting m → Whole e → run r (unite_all l m) e ≡ run r m (run r l e)
  run-unite {l} {m} {e} h q k =
      run-bounded (clocked-valid (unite-valid h q)) (clocked-append (clocked-valid h) (clocked-valid q)) k (unite-below h q e.key)
      (unite-above h q e.key) ∙ run-append l m e

  run-some : (p : Removal → Bool) {ws : List Removal} {e : EntryOf A} → Clocked ws → Whole e → run r (those p ws) (run r ws e) ≡ run r ws e
  run-some p {ws} {e} f h =
      sym (run-append ws (those p ws) e)
      ∙ run-bounded both f h
      (λ a w i t. ⊎_elim (λ j. sup-above f e.key a w j t) (λ j. sup-above f e.key a w (those-means p ws j).0 t) (Memᴰ.append_cases ws i))
      (λ a w i t. sup-above both e.key a w (Memᴰ.append_left (those p ws) i) t)
    where
      both : Clocked (ws ++ those p ws)
      both = clocked-append f (clocked-those p f)

  pub removes-changed : (ws : List Removal) (f : EntryOf A → EntryOf A) (l : List (EntryOf A)) → runs r ws (sift stays_of f l)
      ≡ sift stays_of (λ e. run r ws (f e)) l
  removes-changed ws f l =
      ap (runs r ws) (sym (sift-map stays_of (λ e. e) f l)) ∙ removes-run r ws (map f l) ∙ sift-map stays_of (run r ws) f l

  afresh-changed : (c : List Dot) (f : EntryOf A → EntryOf A) (l : List (EntryOf A)) {w : List Removal} → Ascending removal_before w
      → afresh_of r (map_with c (sift stays_of f l) w) ≡ map_with c (sift stays_of (λ e. run r w (f e)) l) (those (waits c) w)
  unfolding afresh_of
  afresh-changed c f l {w} a =
      removes r w c (sift stays_of f l) [] ∙ ap₂ (map_with c) (removes-changed w f l) (unite-afresh (those-ascends (waits c) a))

  abbrev pub woven : MapOf A → MapOf A → List (EntryOf A)
  woven m n = woven_of r m.seen n.seen m.entries n.entries

  module _ (m n : MapOf A) (a : Lawful m.seen) (b : Lawful n.seen) (h : ValidWaiting m.waiting) (k : ValidWaiting n.waiting)
      (g : (e : EntryOf A) → e ∈ woven m n → Whole e) where
    abbrev joined : List Dot
    joined = join_dots m.seen n.seen

    abbrev theirs : List Removal
    theirs = those (waits m.seen) n.waiting

    theirs-valid : ValidWaiting theirs
    theirs-valid = those-valid (waits m.seen) k

    under : fold (remove_of r) (map_with m.seen (those stays_of (woven m n)) m.waiting) n.waiting
        ≡ map_with m.seen (sift stays_of (run r n.waiting) (woven m n)) (unite_all m.waiting theirs)
    under =
        removes r n.waiting m.seen (those stays_of (woven m n)) m.waiting
        ∙ ap₂ (map_with m.seen) (removes-run r n.waiting (woven m n)) (unite-behind m.waiting theirs-valid.rising)

    entries-closed : sift stays_of (λ e. run r (unite_all m.waiting theirs) (run r n.waiting e)) (woven m n)
        ≡ sift stays_of (λ e. run r m.waiting (run r n.waiting e)) (woven m n)
    entries-closed = sift-same stays_of _ _ (woven m n) (λ e i. each e (g e i))
      where
        each : (e : EntryOf A) → Whole e → run r (unite_all m.waiting theirs) (run r n.waiting e) ≡ run r m.waiting (run r n.waiting e)
        each e q =
            run-unite h theirs-valid (run-whole n.waiting q)
            ∙ run-trade theirs m.waiting (run-whole n.waiting q)
            ∙ ap (run r m.waiting) (run-some (waits m.seen) (clocked-valid k) q)

    waits-less : (v : Removal) → Lawful (under_of v) → waits m.seen v && waits joined v ≡ waits joined v
    waits-less v c = go (waits m.seen v) refl
      where
        go : (f : Bool) → waits m.seen v ≡ f → f && waits joined v ≡ waits joined v
        go true t = refl
        go false t =
            sym (waits-covers joined v ∙ ap not
            (covers-trans joined m.seen _ (covers-join-left a b)
            (not-false (covers m.seen (under_of v)) (sym (waits-covers m.seen v) ∙ t))))

    waiting-closed : those (waits joined) (unite_all m.waiting theirs)
        ≡ unite_all (those (waits joined) m.waiting) (those (waits joined) n.waiting)
    waiting-closed =
        unite-those h.rising theirs-valid.rising (waits joined) (λ x y e. waits-same joined x y e)
        ∙ ap (unite_all (those (waits joined) m.waiting))
        (those-those (waits joined) (waits m.seen) n.waiting ∙ those-same _ _ n.waiting (λ v i. waits-less v (k.each v i).clock))

    pub merge-closed : merge_of r m n ≡ map_with joined (sift stays_of (λ e. run r m.waiting (run r n.waiting e)) (woven m n))
        (unite_all (those (waits joined) m.waiting) (those (waits joined) n.waiting))
    unfolding merge_of
    merge-closed =
        rw (merge-sifted r m.seen n.seen m.entries n.entries) (ap (λ x. afresh_of r (map_with joined x.entries x.waiting)) under
        ∙ afresh-changed joined (run r n.waiting) (woven m n) (unite-ascends h.rising theirs-valid.rising)
        ∙ ap₂ (map_with joined) entries-closed waiting-closed)
