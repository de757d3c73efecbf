-- `spent_under` meets its contract: the loop looks for a dot that both hold.
use borrow.Author.Tests.{eq-eqb, ne_eqb}
use Rattle.listlaws.proofs.SlicePassing.{passing-here, passing-on, passing-end}
use Rattle.clock.specs.Dots.{no_dot}
use Rattle.asking.specs.Asking.{spent_under}
use native.Mathlib.Omega.{arith}
use Rattle.asking.proofs.spent_under.Goals as goal

pub returns-then-key-other : goal.returns-then-key-other
unfolding spent_under
returns-then-key-other c = rw (eq-eqb _ _ c.if-key-other.true)

pub returns-then-get-d : goal.returns-then-get-d
unfolding spent_under
returns-then-get-d c =
    rw (ne_eqb _ _ c.if-key-other.false, ← c.as_slice-d-items.ensures)
    (passing-here no_dot c.loop-d.invariant c.loop-d-test.true (eq-eqb _ _ (rw c.get.ensures at c.if-get-d.true)))

pub loop-d-preserved : goal.loop-d-preserved
loop-d-preserved c = passing-on no_dot c.loop-d.invariant c.loop-d-test.true (ne_eqb _ _ (rw c.get.ensures at c.if-get-d.false))

pub returns : goal.returns
unfolding spent_under
returns c = rw (ne_eqb _ _ c.if-key-other.false, ← c.as_slice-d-items.ensures) (passing-end c.loop-d.invariant (omega arith))
