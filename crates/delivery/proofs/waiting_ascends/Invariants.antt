-- `waiting_ascends` meets its contract: the loop stops at a clock that does not stand behind the one before it.
use mathlib.Core.Path.{◌≡◌}
use Prim.Native.Nat.{◌-◌}
use lib.ListN.{drop}
use Rattle.maprecords.specs.Related.{ascend}
use Rattle.memory.specs.Memory.{waiting_at}
use Rattle.delivery.proofs.waiting_ascends.Given as goal

abbrev pub invariant-loop-k : goal.invariant-loop-k
invariant-loop-k l = ascend (waiting_at l.mem) ≡ ascend (drop (l.k - 1) (waiting_at l.mem))
