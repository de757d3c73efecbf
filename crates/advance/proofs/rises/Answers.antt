-- `rises` meets its contract: each dot stands from the place behind the last actor on.
use mathlib.Core.Path.{refl, sym, ap, ◌∙◌}
use mathlib.Core.Bool.{not}
use Rattle.clock.specs.Dots.{no_dot}
use Rattle.advance.proofs.Risings.{rising-stops, rising-goes, rising-end}
use native.Mathlib.Omega.{arith}
use Rattle.advance.proofs.rises.Goals as goal

pub loop-d-init : goal.loop-d-init
loop-d-init c = refl

pub returns-then-not-low-actor : goal.returns-then-not-low-actor
returns-then-not-low-actor c =
    rw (← c.as_slice-d-items.ensures)
    (rising-stops _ _ c.loop-d.low no_dot c.loop-d-test.true c.loop-d.invariant (ap not c.if-not-low-actor.true))

pub loop-d-preserved : goal.loop-d-preserved
loop-d-preserved c = rising-goes _ _ c.loop-d.low no_dot c.loop-d-test.true c.loop-d.invariant (ap not c.if-not-low-actor.false)

pub returns : goal.returns
returns c =
    let items = c.as_slice-d-items in
    rw (← items.ensures) (sym (c.loop-d.invariant ∙ rising-end items.result.now c.loop-d.d-index c.loop-d.low (omega arith)))
