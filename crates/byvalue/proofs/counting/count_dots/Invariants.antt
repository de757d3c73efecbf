-- `count_dots` meets its contract: the loop adds up what each has.
use mathlib.Core.Path.{◌≡◌}
use Prim.Native.Nat.{◌+◌, ◌*◌, ◌≤◌}
use lib.ListN.{drop}
use Rattle.promises.specs.Deleted.{dots_among}
use Rattle.byvalue.proofs.counting.count_dots.Given as goal

abbrev pub invariant-loop-e : goal.invariant-loop-e
invariant-loop-e l = (l.total ≤ l.e-index * 8) × (l.total + dots_among (drop l.e-index l.e-items) ≡ dots_among l.e-items)
