-- `WideEntry::run` meets its contract: one removal after the other, each on the clock and on the values.
use mathlib.Core.Path.{◌≡◌, refl, ap, sym, ◌∙◌}
use mathlib.Core.Bool.{true, false}
use Rattle.listlaws.proofs.SliceFolding.{folding-on, folding-end}
use Rattle.clock.specs.declared.Clock.{Clock}
use Rattle.clock.specs.Dots.{dots_of, clock_of, cut_dots}
use Rattle.clock.proofs.Packs.{cut_left}
use Rattle.register.specs.declared.Wide.{Wide}
use Rattle.register.specs.InHand.{wide_values, wide_of}
use Rattle.register.specs.Values.{cut_values}
use Rattle.register.proofs.Packs.{wide-values}
use Rattle.entries.specs.declared.Entry.{Entry}
use Rattle.entries.specs.declared.WideEntry.{WideEntry}
use Rattle.removals.specs.declared.Removal.{Removal}
use Rattle.entries.specs.Model.{values_in}
use Rattle.removals.specs.Model.{under_of, listed_in}
use Rattle.entries.specs.Steps.{wide_entry}
use Rattle.removals.specs.Waits.{listed}
use Rattle.entries.specs.Entries.{cut_entry, remove_from}
use Rattle.removals.proofs.Packs.{no_removal_read}
use Rattle.entries.proofs.Packs.{wide-as}
use native.Mathlib.Omega.{arith}
use Rattle.entries.proofs.WideEntry.run.Invariants.{made}
use Rattle.entries.proofs.WideEntry.run.Goals.{then-contains, else-contains}
use Rattle.entries.proofs.WideEntry.run.Goals as goal

-- a removal that lists the key cuts both parts; any other leaves them
module _ {h : WideEntry} (w : Removal) (e : Entry) (q : h ≡ wide_entry e) where
  cut-made : {c : Clock} {v : Wide} → listed (listed_in w) h.key ≡ true → c ≡ clock_of (cut_dots (under_of w) (dots_of h.clock))
      → v ≡ wide_of (cut_values (under_of w) (wide_values h.wide)) → made h.key c v ≡ wide_entry (remove_from w e)
  unfolding remove_from cut_entry
  cut-made t p r = rw (rw (ap (λ k. k.key) q) at t) (rw (p, r, q, wide-values (values_in e) refl) (sym (wide-as _ _ _)))

  keep-made : listed (listed_in w) h.key ≡ false → h ≡ wide_entry (remove_from w e)
  unfolding remove_from
  keep-made t = q ∙ rw (rw (ap (λ k. k.key) q) at t)

pub loop-w-preserved : goal.loop-w-preserved
loop-w-preserved c = λ e q.
    elim c.if-contains.branch [
      | then-contains w ↦
          rw (w.clock-is, w.wide-is)
          (folding-on no_removal_read (c.loop-w.invariant e q) c.loop-w-test.true
          (λ x p. cut-made _ x p (sym c.contains.ensures ∙ w.if-contains.true) (cut_left _ _ w.cut.ensures) w.cut-wide.ensures))
      | else-contains w ↦
          rw (w.clock-is, w.wide-is)
          (folding-on no_removal_read (c.loop-w.invariant e q) c.loop-w-test.true
          (λ x p. keep-made _ x p (sym c.contains.ensures ∙ w.if-contains.false)))
    ]

pub returns : goal.returns
returns c = λ e q. rw (← c.as_slice-w-items.ensures) (folding-end (c.loop-w.invariant e q) (omega arith))
