-- `Clock::covers_by_look` meets its contract: the loop looks for a dot that is beyond.
use borrow.Author.Tests.{lt-ltb, le-ltb}
use Rattle.listlaws.proofs.SlicePassing.{passing-start, passing-here, passing-on, passing-end}
use Rattle.clock.specs.Dots.{no_dot, covers}
use native.Mathlib.Omega.{arith}
use Rattle.clock.proofs.Clock.covers_by_look.Goals as goal

pub loop-d-init : goal.loop-d-init
loop-d-init c = passing-start

pub returns-then-get-d : goal.returns-then-get-d
unfolding covers
returns-then-get-d c = rw (← c.as_slice-d-items.ensures) (passing-here no_dot c.loop-d.invariant c.loop-d-test.true
    (lt-ltb _ _ (rw c.get.ensures at c.if-get-d.true)))

pub loop-d-preserved : goal.loop-d-preserved
loop-d-preserved c = passing-on no_dot c.loop-d.invariant c.loop-d-test.true (le-ltb _ _ (rw c.get.ensures at c.if-get-d.false))

pub returns : goal.returns
unfolding covers
returns c = rw (← c.as_slice-d-items.ensures) (passing-end c.loop-d.invariant (omega arith))
