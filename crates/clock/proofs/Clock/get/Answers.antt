-- `Clock::get` meets its contract: the loop looks for the actor's dot.
use borrow.Author.Tests.{eq-eqb, ne_eqb}
use Rattle.listlaws.proofs.SlicePassing.{passing-start, passing-here, passing-on, passing-end}
use Rattle.clock.specs.Dots.{no_dot, counter_in}
use native.Mathlib.Omega.{arith}
use Rattle.clock.proofs.Clock.get.Goals as goal

pub loop-d-init : goal.loop-d-init
loop-d-init c = passing-start

pub returns-then-d-actor : goal.returns-then-d-actor
unfolding counter_in
returns-then-d-actor c = rw (← c.as_slice-d-items.ensures) (passing-here no_dot c.loop-d.invariant c.loop-d-test.true (eq-eqb _ _ c.if-d-actor.true))

pub loop-d-preserved : goal.loop-d-preserved
loop-d-preserved c = passing-on no_dot c.loop-d.invariant c.loop-d-test.true (ne_eqb _ _ c.if-d-actor.false)

pub returns : goal.returns
unfolding counter_in
returns c = rw (← c.as_slice-d-items.ensures) (passing-end c.loop-d.invariant (omega arith))
