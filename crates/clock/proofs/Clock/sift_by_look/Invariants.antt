-- `Clock::sift_by_look` meets its contract: the loop sifts the clock's dots.
use mathlib.Core.List.{[]}
use Rattle.listlaws.proofs.SliceSifting.{Sifting}
use Rattle.clock.specs.Dots.{dots_of, clock_of}
use Rattle.clock.specs.Walking.{kept}
use Rattle.clock.proofs.Clock.sift_by_look.Given as goal

abbrev pub invariant-loop-d : goal.invariant-loop-d
invariant-loop-d l = Sifting clock_of (kept l.same (dots_of l.by)) (λ d. d) [] l.d-items l.d-index l.out
