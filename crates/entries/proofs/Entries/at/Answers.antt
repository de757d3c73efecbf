-- `Entries::at` meets its contract: the loop looks for the key.
use mathlib.Core.Path.{◌∙◌}
use borrow.Author.Tests.{eq-eqb, ne_eqb}
use Rattle.listlaws.proofs.SlicePassing.{passing-here, passing-on, passing-end}
use Rattle.entries.specs.Entries.{entry_at}
use Rattle.entries.proofs.Packs.{none_read}
use native.Mathlib.Omega.{arith}
use Rattle.entries.proofs.Entries.at.Goals as goal

pub returns-then-e-key : goal.returns-then-e-key
unfolding entry_at
returns-then-e-key c =
    rw (← c.as_slice-e-items.ensures) (passing-here none_read c.loop-e.invariant c.loop-e-test.true (eq-eqb _ _ c.if-e-key.true))

pub loop-e-preserved : goal.loop-e-preserved
loop-e-preserved c = passing-on none_read c.loop-e.invariant c.loop-e-test.true (ne_eqb _ _ c.if-e-key.false)

pub returns : goal.returns
unfolding entry_at
returns c = c.new.ensures ∙ rw (← c.as_slice-e-items.ensures) (passing-end c.loop-e.invariant (omega arith))
