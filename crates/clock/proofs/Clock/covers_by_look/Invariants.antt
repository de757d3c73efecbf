-- `Clock::covers_by_look` meets its contract: the loop looks for a dot that is beyond.
use mathlib.Core.Bool.{true, false}
use Rattle.listlaws.proofs.SlicePassing.{Passing}
use Rattle.clock.specs.Dots.{dots_of, beyond}
use Rattle.clock.proofs.Clock.covers_by_look.Given as goal

abbrev pub invariant-loop-d : goal.invariant-loop-d
invariant-loop-d l = Passing (beyond (dots_of l.self)) (λ d. false) true l.d-items l.d-index
