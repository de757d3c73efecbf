-- `waits_before` meets its contract: the loop passes equal dots.
use Prim.Native.Nat.{◌≤◌, ◌-◌}
use Rattle.mending.proofs.Dots.{Comparing}
use Rattle.mending.proofs.waits_before.Given as goal

abbrev pub invariant-loop-i : goal.invariant-loop-i
invariant-loop-i l = (l.i ≤ l.n) × (l.j ≤ l.n) × Comparing l.marks l.image l.a l.b l.i l.j

abbrev pub decreases-loop-i : goal.decreases-loop-i
decreases-loop-i l = l.n - l.i
