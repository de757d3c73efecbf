-- `count_operations` meets its contract: what is counted and what is left are all.
use mathlib.Core.Path.{◌≡◌}
use Prim.Native.Nat.{◌+◌, ◌-◌, ◌≤◌}
use lib.ListN.{length, drop}
use Rattle.promises.specs.CatchUp.{operations_of}
use Rattle.operations.proofs.count_operations.Given as goal

abbrev pub invariant-loop-at : goal.invariant-loop-at
invariant-loop-at l =
    (l.at ≤ length l.list) × ((l.count ≤ l.at) × (length (operations_of l.list) ≡ l.count + length (operations_of (drop l.at l.list))))

abbrev pub decreases-loop-at : goal.decreases-loop-at
decreases-loop-at l = length l.list - l.at
