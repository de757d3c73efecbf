-- `operation_end` meets its contract: no head comes before it stops.
use Prim.Native.Nat.{◌+◌, ◌*◌}
use Rattle.operations.proofs.Walks.{Walked}
use Rattle.operations.proofs.operation_end.Given as goal

abbrev pub invariant-loop-k : goal.invariant-loop-k
invariant-loop-k l = Walked l.list l.at (l.at + l.k * 16)
