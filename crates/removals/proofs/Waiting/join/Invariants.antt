-- `Waiting::join` meets its contract: the loop walks both lists side by side, and the rest of one goes behind.
use Prim.Native.Nat.{◌≤◌, ◌-◌, ◌+◌}
use lib.ListN.{length}
use Rattle.listlaws.proofs.SliceWeaving.{Weaving}
use Rattle.limits.specs.Limits.{waiting_limit}
use Rattle.removals.specs.Counted.{joined_as, Numbered}
use Rattle.removals.specs.Waits.{removal_before, unite}
use Rattle.removals.proofs.Waiting.join.Given as goal

abbrev pub invariant-loop-i : goal.invariant-loop-i
invariant-loop-i l =
    (l.i ≤ length l.xs) × (l.j ≤ length l.ys) × (length l.xs ≤ waiting_limit) × (length l.ys ≤ waiting_limit) × Numbered l.out (l.i + l.j)
    × Weaving joined_as removal_before (λ r. r) (λ r. r) unite l.xs l.i l.ys l.j l.out

abbrev pub decreases-loop-i : goal.decreases-loop-i
decreases-loop-i l = (length l.xs - l.i) + (length l.ys - l.j)
