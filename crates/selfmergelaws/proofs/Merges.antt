-- A map merged with itself is that map.
use mathlib.Core.Path.{◌≡◌, refl, ap, ap₂, sym, ◌∙◌}
use mathlib.Core.Bool.{Bool, true, false, not}
use mathlib.Core.Logic.{inl, inr}
use mathlib.Core.List.Memᴰ
use mathlib.Core.List.{List, [], ◌∷◌, flatten}
use borrow.Author.Tests.{lt-ltb, leb-true, leb-false}
use lib.Dec.{leb}
use Rattle.listlaws.specs.Fold.{fold}
use Rattle.listlaws.specs.Sift.{sift, those}
use Rattle.listlaws.specs.Order.{◌∈◌, by}
use Rattle.listlaws.proofs.Those.{those-all}
use Rattle.listlaws.proofs.Twice.{map_same, sift-same}
use Rattle.listlaws.proofs.Weaves.{flatten-ones}
use Rattle.clock.specs.declared.Dot.{Dot}
use Rattle.clock.specs.Dots.{dots_of, clock_of, counter_in, beyond, cut_dots}
use Rattle.clock.proofs.Joins.{join-again}
use Rattle.register.specs.declared.Value.{Value}
use Rattle.register.specs.Values.{alive, cut_value, cut_values}
use Rattle.entries.specs.declared.Entry.{Entry}
use Rattle.removals.specs.declared.Removal.{Removal}
use Rattle.entries.specs.Model.{dots_in, values_in, entry_as}
use Rattle.removals.specs.Model.{under_of, listed_in}
use Rattle.entries.specs.Entries.{stays, cut_entry, remove_from, run, alone, together, merge_entries}
use Rattle.removals.specs.Waits.{listed, waits}
use Rattle.entries.specs.Valid.{ValidValue}
use Rattle.entries.proofs.Cuts.{Whole, whole-valid}
use Rattle.entries.proofs.Runs.{from-listed, from-other}
use Rattle.removals.proofs.Waits.{waits-covers}
use Rattle.map.specs.declared.Map.{Map}
use Rattle.map.specs.Model.{seen_by, entries_in, waiting_in}
use Rattle.map.specs.Merging.{merge}
use Rattle.map.specs.Judging.{judged}
use Rattle.map.specs.Valid.{Valid, Within}
use Rattle.map.proofs.Removals.{entries-stay, merge-closed}
use Rattle.selfmergelaws.specs.Premises.{NoneDominated, HoldsDot, AtOrBelow, Untouched, Uncovered}
use Rattle.selfmergelaws.proofs.Selves.{weave-self, by-self, together-self, unite-all-self}

-- a clock that no dot of another is at or below cuts nothing from it
cut-above : (c x : List Dot) → ((d : Dot) → d ∈ x → AtOrBelow d c → ⊥) → cut_dots c x ≡ x
unfolding cut_dots
cut-above c x f = those-all (beyond c) x (λ d i. above d (f d i) (leb d.counter (counter_in c d.actor)) refl)
  where
    above : (d : Dot) → (AtOrBelow d c → ⊥) → (b : Bool) → leb d.counter (counter_in c d.actor) ≡ b → beyond c d ≡ true
    above d g true t = absurd (g (leb-true d.counter (counter_in c d.actor) t))
    above d g false t = lt-ltb (counter_in c d.actor) d.counter (leb-false d.counter (counter_in c d.actor) t)

cut-values-above : (c : List Dot) (l : List Value) → ((v : Value) → v ∈ l → ValidValue v)
    → ((v : Value) → v ∈ l → (d : Dot) → d ∈ dots_of v.clock → AtOrBelow d c → ⊥) → cut_values c l ≡ l
unfolding cut_values
cut-values-above c l h f =
    sift-same alive (cut_value c) (λ v. v) l (λ v i. ap (λ x. record { clock = clock_of x; value = v.value }) (cut-above c (dots_of v.clock) (f v i))
    ∙ sym (h v i).laid)
    ∙ those-all alive l (λ v i. ap not (h v i).some)

-- removals that no dot of an entry is at or below leave it as it is
run-above : (w : List Removal) {e : Entry} → Whole e → ((d : Dot) → HoldsDot e d → (r : Removal) → r ∈ w → listed (listed_in r) e.key ≡ true
    → AtOrBelow d (under_of r) → ⊥) → run w e ≡ e
unfolding fold cut_entry
run-above [] h f = refl
run-above (r ∷ w) {e} h f =
    ap (run w) (one (listed (listed_in r) e.key) refl) ∙ run-above w h (λ d k s i. f d k s (Memᴰ.tail i))
  where
    cut : listed (listed_in r) e.key ≡ true → cut_entry (under_of r) e ≡ e
    cut t =
        ap₂ (entry_as e.key) (cut-above (under_of r) (dots_in e) (λ d i. f d (inl i) r (Memᴰ.head refl) t))
        (cut-values-above (under_of r) (values_in e) h.values (λ v i d j. f d (inr (v, i, j)) r (Memᴰ.head refl) t))
        ∙ sym h.laid

    one : (b : Bool) → listed (listed_in r) e.key ≡ b → remove_from r e ≡ e
    one true t = from-listed r e t ∙ cut t
    one false t = from-other r e t

module _ {m : Map} (h : Valid m) (s : NoneDominated m) (u : Untouched m) (n : Uncovered m) where
  -- what becomes of the entry of both sides
  same-entry : (e : Entry) → e ∈ entries_in m → run (waiting_in m) (run (waiting_in m) e) ≡ e
  same-entry e i =
      let r = run-above (waiting_in m) (whole-valid (h.entries.each e i)) (u e i) in
      ap (run (waiting_in m)) r ∙ r

  -- the entries of both sides
  same-merged : merge_entries (seen_by m) (seen_by m) (entries_in m) (entries_in m) ≡ entries_in m
  unfolding merge_entries
  same-merged =
      ap flatten
      (weave-self (by (λ e. e.key)) (alone (seen_by m)) (alone (seen_by m)) (together (seen_by m) (seen_by m)) (by-self (λ e. e.key)) (entries_in m)
      ∙ map_same (λ e. e ∷ []) (λ e. together (seen_by m) (seen_by m) e e) (entries_in m) (λ e i. together-self (h.entries.each e i) (s e i)))
      ∙ flatten-ones (entries_in m)

  same_entries : sift stays (λ e. run (waiting_in m) (run (waiting_in m) e)) (merge_entries (seen_by m) (seen_by m) (entries_in m) (entries_in m))
      ≡ entries_in m
  same_entries =
      ap (sift stays (λ e. run (waiting_in m) (run (waiting_in m) e))) same-merged
      ∙ sift-same stays _ (λ e. e) (entries_in m) same-entry
      ∙ entries-stay h

  all-wait : those (waits (seen_by m)) (waiting_in m) ≡ waiting_in m
  all-wait = those-all (waits (seen_by m)) (waiting_in m) (λ r i. waits-covers (seen_by m) r ∙ ap not (n r i))

  -- "merging a map with itself gives that map"
  pub merge-self : merge m m ≡ m
  merge-self =
      merge-closed h h
      ∙ rw (join-again h.clock, same_entries, all-wait, unite-all-self h.waiting) (sym h.laid)

-- and a map within the limits is accepted
pub merge-self-accepted : {m : Map} → Within m → NoneDominated m → Untouched m → Uncovered m → judged (merge m m) ≡ record { number = 0; map = m }
unfolding judged
merge-self-accepted {m} h s u n = rw (merge-self h.valid s u n, h.limits) refl
