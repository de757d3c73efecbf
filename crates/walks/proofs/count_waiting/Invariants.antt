-- `count_waiting` meets its contract: the loop follows the definition.
use Prim.Native.Nat.{◌*◌, ◌≤◌, ◌-◌}
use lib.ListN.{length}
use Rattle.limits.specs.Limits.{waiting_limit}
use Rattle.walks.proofs.Loops.{Queueing}
use Rattle.walks.proofs.count_waiting.Given as goal

abbrev pub invariant-loop-at : goal.invariant-loop-at
invariant-loop-at l = ((l.at ≤ l.sixth) × (l.n ≤ waiting_limit)) × ((l.sixth * 16 ≤ length l.s) × Queueing l.s l.initial.at l.sixth l.at l.n l.last)

abbrev pub decreases-loop-at : goal.decreases-loop-at
decreases-loop-at l = waiting_limit - l.n
