-- `first_lacking` meets its contract: the loop looks for the first dot whose needed counter was not seen.
use Prim.Native.Nat.{◌+◌}
use Rattle.listlaws.proofs.SlicePassing.{Passing}
use Rattle.clock.specs.Dots.{dots_of, counter_in}
use Rattle.readiness.specs.declared.Readiness.TheVariants.{Next, Hold}
use Rattle.readiness.specs.Ready.{lacks}
use Rattle.readiness.proofs.first_lacking.Given as goal

abbrev pub invariant-loop-d : goal.invariant-loop-d
invariant-loop-d l =
    Passing (lacks (dots_of l.seen) l.own) (λ d. Hold d.actor (counter_in (dots_of l.seen) d.actor + 1)) Next l.d-items l.d-index
