-- `Register::clock_over` meets its contract: the loop joins one clock after the other.
use mathlib.Core.List.{[]}
use Rattle.listlaws.proofs.SliceFolding.{Folding}
use Rattle.clock.specs.Dots.{dots_of, fitted, join_dots}
use Rattle.register.proofs.Register.clock_over.Given as goal

abbrev pub invariant-loop-v : goal.invariant-loop-v
invariant-loop-v l = Folding fitted (λ c v. join_dots c (dots_of v.clock)) [] l.v-items l.v-index l.out
