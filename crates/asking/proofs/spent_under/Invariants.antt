-- `spent_under` meets its contract: the loop looks for a dot that both hold.
use Rattle.listlaws.proofs.SlicePassing.{Passing}
use Rattle.clock.specs.Dots.{dots_of, shared}
use Rattle.asking.specs.declared.CvRDTValidation.TheVariants.{Once, Twice}
use Rattle.asking.proofs.spent_under.Given as goal

abbrev pub invariant-loop-d : goal.invariant-loop-d
invariant-loop-d l = Passing (shared (dots_of l.theirs)) (λ d. Twice d l.key l.other) Once l.d-items l.d-index
