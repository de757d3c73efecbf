-- `Joined::trail` meets its contract: the loop adds the rest, one dot after the other.
use mathlib.Core.Path.{ap, sym}
use mathlib.Core.List.{◌++◌, map-id}
use Rattle.listlaws.proofs.SliceTrailing.{trailing-start, trailing-add, trailing-end}
use Rattle.clock.specs.Dots.{no_dot}
use native.Mathlib.Omega.{arith}
use Rattle.clock.proofs.Joined.trail.Goals as goal

pub loop-d-init : goal.loop-d-init
loop-d-init c = λ l e. trailing-start l (ap (λ k. l ++ k) (sym (map-id _))) e

pub loop-d-preserved : goal.loop-d-preserved
loop-d-preserved c = λ l e. trailing-add no_dot (c.loop-d.invariant l e) c.loop-d-test.true c.push-out.ensures

pub returns : goal.returns
returns c = λ l e. trailing-end (c.loop-d.invariant l e) (omega arith)
