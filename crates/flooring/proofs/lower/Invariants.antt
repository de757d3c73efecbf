-- `lower` meets its contract: the loop sifts the clock's dots.
use mathlib.Core.List.{[]}
use Rattle.listlaws.proofs.SliceSifting.{Sifting}
use Rattle.clock.specs.Dots.{dots_of, clock_of}
use Rattle.flooring.specs.Floor.{counted}
use Rattle.flooring.specs.Steps.{lower_dot}
use Rattle.flooring.proofs.lower.Given as goal

abbrev pub invariant-loop-d : goal.invariant-loop-d
invariant-loop-d l = Sifting clock_of counted (lower_dot (dots_of l.peer)) [] l.d-items l.d-index l.out
