-- `has_left` meets its contract: the loop looks for the first record that is left and wanted.
use mathlib.Core.Bool.{true, false, ◌&&◌}
use Rattle.listlaws.proofs.Passing.{Passing}
use Rattle.culling.specs.Marks.{marked_of, is_left_at}
use Rattle.culling.specs.Looking.{is_wanted}
use Rattle.culling.proofs.has_left.Given as goal

abbrev pub invariant-loop-i : goal.invariant-loop-i
invariant-loop-i l = Passing (λ z. is_left_at l.from z && is_wanted l.w z.item) (λ z. true) false (marked_of l.marks l.image) l.n l.i
