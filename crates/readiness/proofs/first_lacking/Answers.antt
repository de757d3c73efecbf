-- `first_lacking` meets its contract: the loop looks for the first dot whose needed counter was not seen.
use borrow.Author.Tests.{lt-ltb, le-ltb}
use Rattle.listlaws.proofs.SlicePassing.{passing-here, passing-on, passing-end}
use Rattle.clock.specs.Dots.{no_dot}
use Rattle.readiness.specs.Ready.{first_lacking}
use native.Mathlib.Omega.{arith}
use Rattle.readiness.proofs.first_lacking.Goals as goal

pub returns-then-s-needs : goal.returns-then-s-needs
unfolding first_lacking
returns-then-s-needs c =
    rw (c.get-s.ensures, ← c.as_slice-d-items.ensures)
    (passing-here no_dot c.loop-d.invariant c.loop-d-test.true
    (lt-ltb _ _ (rw (c.get-s.ensures, c.needed-needs.ensures) at c.if-s-needs.true)))

pub loop-d-preserved : goal.loop-d-preserved
loop-d-preserved c =
    passing-on no_dot c.loop-d.invariant c.loop-d-test.true
    (le-ltb _ _ (rw (c.get-s.ensures, c.needed-needs.ensures) at c.if-s-needs.false))

pub returns : goal.returns
unfolding first_lacking
returns c = rw (← c.as_slice-d-items.ensures) (passing-end c.loop-d.invariant (omega arith))
