-- `join_plan` meets its contract: the loop walks both queues side by side.
use mathlib.Core.Path.{◌≡◌}
use mathlib.Core.List.{List}
use Prim.Native.Nat.{◌+◌, ◌≤◌, ◌-◌}
use lib.ListN.{length}
use Rattle.clock.specs.Dots.{dots_of}
use Rattle.removals.specs.declared.Removal.{Removal}
use Rattle.limits.specs.Limits.{waiting_limit}
use Rattle.removals.specs.Valid.{ValidWaiting}
use Rattle.queued.specs.Queue.{Queued}
use Rattle.planned.proofs.Joining.{Joining}
use Rattle.planned.proofs.join_plan.Given as goal

abbrev pub invariant-loop-i : goal.invariant-loop-i
invariant-loop-i l =
    ((l.i ≤ l.n) × (l.j ≤ l.m) × (l.count ≤ l.i + l.j) × (length l.ours ≡ waiting_limit) × (length l.theirs ≡ waiting_limit)
    × (length l.items ≡ waiting_limit))
    × ((w v : List Removal) → Queued l.s l.q w → Queued l.t l.p v → ValidWaiting w → ValidWaiting v
    → Joining (dots_of l.seen) w v l.s l.t l.i l.j l.count l.items l.ours l.theirs)

abbrev pub decreases-loop-i : goal.decreases-loop-i
decreases-loop-i l = (l.n - l.i) + (l.m - l.j)
