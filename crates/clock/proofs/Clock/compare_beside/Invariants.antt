-- `Clock::compare_beside` meets its contract: the loop walks both clocks side by side, and keeps what each covers of the other.
use Prim.Native.Nat.{◌≤◌, ◌-◌, ◌+◌}
use lib.ListN.{length}
use Rattle.clock.proofs.SliceWalks.{Covering}
use Rattle.clock.proofs.Clock.compare_beside.Given as goal

abbrev pub invariant-loop-i : goal.invariant-loop-i
invariant-loop-i l =
    (l.i ≤ length l.xs) × (l.j ≤ length l.ys) × Covering l.xs l.i l.ys l.j l.over × Covering l.ys l.j l.xs l.i l.under

abbrev pub decreases-loop-i : goal.decreases-loop-i
decreases-loop-i l = (length l.xs - l.i) + (length l.ys - l.j)
