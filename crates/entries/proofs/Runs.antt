-- A run of removals on one entry is one cut, by the largest counters among the clocks that list its key: `run-closed`; and so on all entries.
use mathlib.Core.Path.{◌≡◌, refl, ap, sym, ◌∙◌}
use mathlib.Core.Bool.{Bool, true, false, not, cond}
use mathlib.Core.Logic.{⊎_elim}
use mathlib.Core.List.Memᴰ
use mathlib.Core.List.{List, [], ◌∷◌, ◌++◌, map}
use Prim.Native.Nat.{ℕ}
use native.Mathlib.Omega.{arith}
use borrow.Author.Tests.{not-false}
use Rattle.listlaws.specs.Fold.{fold}
use Rattle.listlaws.specs.Sift.{sift, those}
use Rattle.listlaws.proofs.Folds.{fold-append}
use Rattle.listlaws.proofs.Those.{those-means}
use Rattle.listlaws.proofs.Twice.{sift-map, sift-sift}
use Rattle.clock.specs.Dots.{is_empty, counter_in, cut_dots}
use Rattle.clock.proofs.Counters.{same-clock}
use Rattle.register.specs.Values.{cut_values}
use Rattle.removals.specs.declared.Removal.{Removal}
use Rattle.removals.specs.Model.{under_of, listed_in}
use Rattle.removals.specs.Waits.{listed, unite_all}
use Rattle.removals.specs.Valid.{ValidWaiting}
use Rattle.removals.proofs.ListingClocks.{sup_of, Clocked, tail-clocked, sup-listed, sup-other, Bounded, lawful-sup, sup_least, sup-above}
use Rattle.removals.proofs.ListingClocks.{clocked-valid, clocked-append, clocked-those, unite-below, unite-above}
use Rattle.removals.proofs.WaitingValid.{unite-valid}
use Rattle.entries.specs.declared.Entry.{Entry}
use Rattle.entries.specs.Model.{dots_in, LaidDown, values_in}
use Rattle.entries.specs.Entries.{stays, cut_entry, remove_from, remove_entries, run}
use Rattle.entries.proofs.Cuts.{Whole, cut-key, laid-cut, gone-cut, whole-cut, cut-entry-trade, cut-dots, cut-values, cut-entry-cut}
use Rattle.entries.proofs.Cuts.{cut-entry-none}

-- one removal after the other, on all entries
abbrev pub runs : List Removal → List Entry → List Entry
runs ws l = fold (λ s w. remove_entries w s) l ws

-- what a removal makes of an entry, whether it lists the key or not
module _ (w : Removal) (e : Entry) where
  pub from : (P : Entry → Type 0) → P (cut_entry (under_of w) e) → P e → P (remove_from w e)
  unfolding remove_from
  from P p q = go (listed (listed_in w) e.key)
    where
      go : (b : Bool) → P (cond b (cut_entry (under_of w) e) e)
      go true = p
      go false = q

  pub from_key : (remove_from w e).key ≡ e.key
  from_key = from (λ x. x.key ≡ e.key) (cut-key (under_of w) e) refl

  pub gone-from : is_empty (dots_in e) ≡ true → is_empty (dots_in (remove_from w e)) ≡ true
  gone-from t = from (λ x. is_empty (dots_in x) ≡ true) (gone-cut (under_of w) e t) t

  pub whole_from : Whole e → Whole (remove_from w e)
  whole_from h = from Whole (whole-cut (under_of w) e h) h

  -- an emptied entry does not come back
  pub dropped-from : stays e ≡ false → stays (remove_from w e) ≡ false
  dropped-from t = ap not (gone-from (not-false (is_empty (dots_in e)) t))

  pub laid_from : LaidDown e → LaidDown (remove_from w e)
  laid_from h = from LaidDown (laid-cut (under_of w) e) h

pub from-listed : (w : Removal) (e : Entry) → listed (listed_in w) e.key ≡ true → remove_from w e ≡ cut_entry (under_of w) e
unfolding remove_from
from-listed w e t = rw t

pub from-other : (w : Removal) (e : Entry) → listed (listed_in w) e.key ≡ false → remove_from w e ≡ e
unfolding remove_from
from-other w e t = rw t

-- two removals trade places
pub from-trade : (r s : Removal) (e : Entry) → remove_from r (remove_from s e) ≡ remove_from s (remove_from r e)
unfolding remove_from cut_entry
from-trade r s e = go (listed (listed_in r) e.key) (listed (listed_in s) e.key) refl refl
  where
    go : (b c : Bool) → listed (listed_in r) e.key ≡ b → listed (listed_in s) e.key ≡ c
        → remove_from r (cond c (cut_entry (under_of s) e) e) ≡ remove_from s (cond b (cut_entry (under_of r) e) e)
    go true true t u = rw (cut-key (under_of s) e, cut-key (under_of r) e, t, u) (cut-entry-trade (under_of r) (under_of s) e)
    go true false t u = rw (cut-key (under_of r) e, t, u)
    go false true t u = rw (cut-key (under_of s) e, t, u)
    go false false t u = rw (t, u)

pub run-laid : (ws : List Removal) {e : Entry} → LaidDown e → LaidDown (run ws e)
unfolding fold
run-laid [] h = h
run-laid (w ∷ ws) {e} h = run-laid ws (laid_from w e h)

pub run-whole : (ws : List Removal) {e : Entry} → Whole e → Whole (run ws e)
unfolding fold
run-whole [] h = h
run-whole (w ∷ ws) {e} h = run-whole ws (whole_from w e h)

-- an emptied entry stays emptied
pub gone-stays : (ws : List Removal) (e : Entry) → is_empty (dots_in e) ≡ true → is_empty (dots_in (run ws e)) ≡ true
unfolding fold
gone-stays [] e t = t
gone-stays (w ∷ ws) e t = gone-stays ws (remove_from w e) (gone-from w e t)

pub run-append : (ws vs : List Removal) (e : Entry) → run (ws ++ vs) e ≡ run vs (run ws e)
run-append ws vs e = fold-append (λ x w. remove_from w x) e ws vs

run-from : (w : Removal) (vs : List Removal) (e : Entry) → remove_from w (run vs e) ≡ run vs (remove_from w e)
unfolding fold
run-from w [] e = refl
run-from w (v ∷ vs) e = run-from w vs (remove_from v e) ∙ ap (run vs) (from-trade w v e)

-- two runs trade places
pub run-trade : (ws vs : List Removal) (e : Entry) → run ws (run vs e) ≡ run vs (run ws e)
unfolding fold
run-trade [] vs e = refl
run-trade (w ∷ ws) vs e = ap (run ws) (run-from w vs e) ∙ run-trade ws vs (remove_from w e)

-- a run is one cut
pub run-closed : (ws : List Removal) {e : Entry} → Clocked ws → Whole e → run ws e ≡ cut_entry (sup_of ws e.key) e
unfolding fold
run-closed [] {e} f h = unfold sup_of sift in sym (cut-entry-none h)
run-closed (w ∷ ws) {e} f h = go (listed (listed_in w) e.key) refl (run-closed ws (tail-clocked f) (whole_from w e h))
  where
    go : (b : Bool) → listed (listed_in w) e.key ≡ b → run ws (remove_from w e) ≡ cut_entry (sup_of ws (remove_from w e).key) (remove_from w e)
        → run ws (remove_from w e) ≡ cut_entry (sup_of (w ∷ ws) e.key) e
    go true t q =
        q ∙ ap (λ x. cut_entry (sup_of ws x) (remove_from w e)) (from_key w e) ∙ ap (cut_entry (sup_of ws e.key)) (from-listed w e t)
        ∙ cut-entry-cut (f w (Memᴰ.head refl)) (lawful-sup (tail-clocked f) e.key) e
        ∙ ap (λ c. cut_entry c e) (sym (sup-listed f e.key t))
    go false t q =
        q ∙ ap (λ x. cut_entry (sup_of ws x.key) x) (from-other w e t) ∙ ap (λ c. cut_entry c e) (sym (sup-other w ws e.key t))

-- end theorems: what a run leaves of an entry's dots and of its values, in demand 3's words
pub run-dots : (ws : List Removal) {e : Entry} → Clocked ws → Whole e → dots_in (run ws e) ≡ cut_dots (sup_of ws e.key) (dots_in e)
run-dots ws {e} f h = ap (λ x. dots_in x) (run-closed ws f h) ∙ cut-dots (sup_of ws e.key) e

pub run-values : (ws : List Removal) {e : Entry} → Clocked ws → Whole e → values_in (run ws e) ≡ cut_values (sup_of ws e.key) (values_in e)
run-values ws {e} f h = ap (λ x. values_in x) (run-closed ws f h) ∙ cut-values (sup_of ws e.key) e

-- runs with the same largest counters make the same of an entry
pub run-same : {ws vs : List Removal} {e : Entry} → Clocked ws → Clocked vs → Whole e
    → ((a : ℕ) → counter_in (sup_of ws e.key) a ≡ counter_in (sup_of vs e.key) a) → run ws e ≡ run vs e
run-same {ws} {vs} {e} f g h q =
    run-closed ws f h
    ∙ ap (λ c. cut_entry c e) (same-clock (lawful-sup f e.key) (lawful-sup g e.key) q)
    ∙ sym (run-closed vs g h)

pub run-bounded : {ws vs : List Removal} {e : Entry} → Clocked ws → Clocked vs → Whole e → Bounded ws vs e.key → Bounded vs ws e.key
    → run ws e ≡ run vs e
run-bounded {ws} {vs} {e} f g h p q =
    run-same f g h (λ a. omega (
      arith,
      sup_least f e.key a (counter_in (sup_of vs e.key) a) (p a),
      sup_least g e.key a (counter_in (sup_of ws e.key) a) (q a),
    ))

-- united removals do what both lists do
pub run-unite : {l m : List Removal} {e : Entry} → ValidWaiting l → ValidWaiting m → Whole e → run (unite_all l m) e ≡ run m (run l e)
run-unite {l} {m} {e} h q k =
    run-bounded (clocked-valid (unite-valid h q)) (clocked-append (clocked-valid h) (clocked-valid q)) k (unite-below h q e.key)
    (unite-above h q e.key)
    ∙ run-append l m e

-- some of a run again
pub run-some : (p : Removal → Bool) {ws : List Removal} {e : Entry} → Clocked ws → Whole e → run (those p ws) (run ws e) ≡ run ws e
run-some p {ws} {e} f h =
    sym (run-append ws (those p ws) e)
    ∙ run-bounded both f h
    (λ a w i t. ⊎_elim (λ j. sup-above f e.key a w j t) (λ j. sup-above f e.key a w (those-means p ws j).0 t) (Memᴰ.append_cases ws i))
    (λ a w i t. sup-above both e.key a w (Memᴰ.append_left (those p ws) i) t)
  where
    both : Clocked (ws ++ those p ws)
    both = clocked-append f (clocked-those p f)

-- a removal of all entries, one by one, of which the emptied ones have gone or not
remove-those : (w : Removal) (l : List Entry) → remove_entries w (those stays l) ≡ those stays (map (remove_from w) l)
unfolding remove_entries
remove-those w l =
    sift-sift stays (λ e. e) (remove_from w) l (λ e i t. dropped-from w e t) ∙ sym (sift-map stays (λ e. e) (remove_from w) l)

-- a run of removals acts entry by entry
pub removes-run : (ws : List Removal) (l : List Entry) → runs ws (those stays l) ≡ sift stays (run ws) l
unfolding fold
removes-run [] l = refl
removes-run (w ∷ ws) l =
    ap (runs ws) (remove-those w l) ∙ removes-run ws (map (remove_from w) l) ∙ sift-map stays (run ws) (remove_from w) l

-- behind a change of all entries
pub removes-changed : (ws : List Removal) (f : Entry → Entry) (l : List Entry) → runs ws (sift stays f l) ≡ sift stays (λ e. run ws (f e)) l
removes-changed ws f l =
    ap (runs ws) (sym (sift-map stays (λ e. e) f l)) ∙ removes-run ws (map f l) ∙ sift-map stays (run ws) f l
