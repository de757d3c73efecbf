-- `Clock::is_lawful` meets its contract: each dot stands from the place behind the last actor on.
use mathlib.Core.Path.{refl, ap, sym, ◌∙◌}
use mathlib.Core.Bool.{not}
use lib.Dec.{ltb}
use Rattle.listlaws.proofs.SliceRising.{rising-stops, rising-goes, rising-end}
use Rattle.clock.specs.Dots.{no_dot}
use Rattle.clock.specs.Walking.{is_lawful}
use native.Mathlib.Omega.{arith}
use Rattle.clock.proofs.Clock.is_lawful.Goals as goal

pub loop-d-init : goal.loop-d-init
loop-d-init c = refl

pub returns-then-not-low-actor : goal.returns-then-not-low-actor
unfolding is_lawful
returns-then-not-low-actor c =
    rw (← c.as_slice-d-items.ensures) (rising-stops (λ d. d.actor) (λ d. ltb 0 d.counter) _ c.loop-d.d-index c.loop-d.low no_dot
    c.loop-d-test.true c.loop-d.invariant (ap not c.if-not-low-actor.true))

pub loop-d-preserved : goal.loop-d-preserved
loop-d-preserved c =
    rising-goes (λ d. d.actor) (λ d. ltb 0 d.counter) _ c.loop-d.d-index c.loop-d.low no_dot c.loop-d-test.true
    c.loop-d.invariant (ap not c.if-not-low-actor.false)

pub returns : goal.returns
unfolding is_lawful
returns c =
    rw (← c.as_slice-d-items.ensures) (sym (c.loop-d.invariant ∙ rising-end (λ d. d.actor) (λ d. ltb 0 d.counter) _
    c.loop-d.d-index c.loop-d.low (omega arith)))
