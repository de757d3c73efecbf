-- `Clock::join` meets its contract: the loop walks both clocks side by side, and the rest of one goes behind.
use Prim.Native.Nat.{◌≤◌, ◌-◌, ◌+◌}
use lib.ListN.{length}
use Rattle.listlaws.specs.Order.{by}
use Rattle.listlaws.proofs.SliceWeaving.{Weaving}
use Rattle.clock.specs.Dots.{fitted, larger_dot}
use Rattle.clock.proofs.Clock.join.Given as goal

abbrev pub invariant-loop-i : goal.invariant-loop-i
invariant-loop-i l =
    (l.i ≤ length l.xs) × (l.j ≤ length l.ys)
    × Weaving fitted (by (λ d. d.actor)) (λ d. d) (λ d. d) larger_dot l.xs l.i l.ys l.j l.out

abbrev pub decreases-loop-i : goal.decreases-loop-i
decreases-loop-i l = (length l.xs - l.i) + (length l.ys - l.j)
