-- Cuts, once over the level: they trade places, two are one by both clocks joined, and what is valid stays valid.
use mathlib.Core.Path.{◌≡◌, refl, ap, ap₂, sym, ◌∙◌}
use mathlib.Core.Bool.{false, not}
use mathlib.Core.List.{List, []}
use Prim.Native.Nat.{ℕ, zero, suc}
use borrow.Author.Tests.{not-true, not-false}
use Rattle.listlaws.specs.Sift.{sift}
use Rattle.listlaws.proofs.Orders.{by-strict}
use Rattle.listlaws.proofs.Ranks.{by-steady, level_by}
use Rattle.listlaws.proofs.Sides.{sift-ascends}
use Rattle.listlaws.proofs.Those.{sift-means, those-all}
use Rattle.listlaws.proofs.Twice.{sift-same, sift-sift}
use Rattle.clock.specs.declared.Dot.{Dot}
use Rattle.clock.specs.Dots.{is_empty, cut_dots, join_dots}
use Rattle.clock.specs.Lawful.{Lawful}
use Rattle.clock.proofs.Cuts.{cut-trade, cut-none, lawful-cut}
use Rattle.clock.proofs.Joins.{cut-cut}
use Rattle.clock.proofs.Empties.{empty-cut}
use Rattle.clock.proofs.Within.{covers-cuts}
use Rattle.register.proofs.Cuts.{cut-values-trade, cut-values-cut}
use Rattle.entries.specs.Valid.{ValidValue}
use Rattle.entries.proofs.Cuts.{valid-cut-value, cut-none-values}
use Rattle.register.proofs.Kept.{cut-each}
use Rattle.removals.proofs.WaitingValid.{valid-reset-waiting}
use Rattle.levels.specs.MapOver.{EntryOf, MapOf, entry_with, stays_of, cut_entry_of, reset_of, map_rules}
use Rattle.rules.specs.OneEntry.{Holds}
use Rattle.levels.specs.Level.{rules_at}
use Rattle.entries.specs.Entries.{registers}
use Rattle.levels.specs.Good.{GoodEntry, GoodOver, GoodValues, GoodAt}
use Rattle.levels.specs.Laws.{CutLaws}
use Rattle.levels.proofs.Regroup.{reset-trade, reset-both, reset-none}

register_laws : CutLaws registers GoodValues
register_laws = record {
  trade = λ c d {v} g. cut-values-trade c d v;
  both = λ h k {v} g. cut-values-cut h k v;
  good = λ c {v} g. cut-each ValidValue c v (λ w i m. valid-cut-value c w (g w i) m);
  none = λ {v} g. cut-none-values v g;
}

module _ {A O : Type 0} {r : Holds A O} {Good : A → Type 0} (laws : CutLaws r Good) where
  -- an emptied entry does not come back
  entry_gone : (c : List Dot) (e : EntryOf A) → stays_of e ≡ false → stays_of (cut_entry_of r c e) ≡ false
  unfolding cut_entry_of
  entry_gone c e t = ap not (empty-cut c e.dots (not-false (is_empty e.dots) t))

  entries_twice : (c d : List Dot) (l : List (EntryOf A)) → sift stays_of (cut_entry_of r c) (sift stays_of (cut_entry_of r d) l)
      ≡ sift stays_of (λ e. cut_entry_of r c (cut_entry_of r d e)) l
  entries_twice c d l = sift-sift stays_of (cut_entry_of r d) (cut_entry_of r c) l (λ e i t. entry_gone c (cut_entry_of r d e) t)

  module _ {m : MapOf A} (g : GoodOver Good m) where
    map-trade : (c d : List Dot) → reset_of r c (reset_of r d m) ≡ reset_of r d (reset_of r c m)
    unfolding reset_of cut_entry_of
    map-trade c d =
        let entries =
        entries_twice c d m.entries
        ∙ sift-same stays_of _ _ m.entries (λ e i. ap₂ (entry_with e.key) (cut-trade c d e.dots) (laws.trade c d (g.each e i).val))
        ∙ sym (entries_twice d c m.entries) in
        λ i. record { seen = cut-trade c d m.seen i; entries = entries i; waiting = reset-trade g.waiting c d i }

    map_both : {c d : List Dot} → Lawful c → Lawful d → reset_of r d (reset_of r c m) ≡ reset_of r (join_dots c d) m
    unfolding reset_of cut_entry_of
    map_both {c} {d} h k =
        let entries =
        entries_twice d c m.entries
        ∙ sift-same stays_of _ _ m.entries (λ e i. ap₂ (entry_with e.key) (cut-cut h k e.dots) (laws.both h k (g.each e i).val)) in
        λ i. record { seen = cut-cut h k m.seen i; entries = entries i; waiting = reset-both g.waiting h k i }

    map-good : (c : List Dot) → GoodOver Good (reset_of r c m)
    unfolding reset_of cut_entry_of
    map-good c = record {
      clock = lawful-cut c g.clock;
      rising = sift-ascends (by-strict (λ (e : EntryOf A). e.key)) (by-steady (λ (e : EntryOf A). e.key)) stays_of (cut_entry_of r c)
          (λ e. level_by (λ (x : EntryOf A). x.key) e (cut_entry_of r c e) refl) g.rising;
      each = λ z i.
          let s = sift-means stays_of (cut_entry_of r c) m.entries i in
          let o = g.each s.source s.stands in
          let some = not-true (is_empty z.dots) s.passes in
          let left : GoodEntry Good (cut_dots c m.seen) (cut_entry_of r c s.source) = record {
            clock = lawful-cut c o.clock;
            some = ap (λ x. is_empty x.dots) (sym s.changed) ∙ some;
            covered = covers-cuts g.clock o.clock o.covered c;
            val = laws.good c o.val;
          } in
          rw s.changed left;
      waiting = valid-reset-waiting g.waiting.each c;
    }

    map-none : reset_of r [] m ≡ m
    unfolding reset_of cut_entry_of
    map-none =
        let entries =
        sift-same stays_of (cut_entry_of r []) (λ e. e) m.entries
        (λ e i. ap₂ (entry_with e.key) (cut-none (g.each e i).clock) (laws.none (g.each e i).val))
        ∙ those-all stays_of m.entries (λ e i. ap not (g.each e i).some) in
        λ i. record { seen = cut-none g.clock i; entries = entries i; waiting = reset-none g.waiting i }

  map_laws : CutLaws (map_rules r) (GoodOver Good)
  unfolding map_rules
  map_laws = record {
    trade = λ c d g. map-trade g c d;
    both = λ h k g. map_both g h k;
    good = λ c g. map-good g c;
    none = λ g. map-none g;
  }

-- at every level
pub cut_laws : (n : ℕ) → CutLaws (rules_at n) (GoodAt n)
unfolding rules_at
cut_laws zero = register_laws
cut_laws (suc n) = map_laws (cut_laws n)
