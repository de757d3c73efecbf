-- `Waiting::uncovered` meets its contract: the loop sifts the removals.
use mathlib.Core.List.{[]}
use Rattle.listlaws.proofs.SliceSifting.{Sifting}
use Rattle.clock.specs.Dots.{dots_of}
use Rattle.removals.specs.Model.{waiting_as}
use Rattle.removals.specs.Waits.{waits}
use Rattle.removals.proofs.Waiting.uncovered.Given as goal

abbrev pub invariant-loop-r : goal.invariant-loop-r
invariant-loop-r l = Sifting waiting_as (waits (dots_of l.seen)) (λ r. r) [] l.r-items l.r-index l.out
