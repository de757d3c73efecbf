-- `Clock::sift_beside` meets its contract: the loop sifts the clock's dots, and walks the other clock beside them.
use mathlib.Core.List.{[]}
use Prim.Native.Nat.{◌≤◌, ◌-◌, ◌+◌}
use lib.ListN.{length}
use Rattle.listlaws.proofs.SliceSifting.{Sifting}
use Rattle.clock.specs.Dots.{clock_of}
use Rattle.clock.specs.Walking.{kept}
use Rattle.clock.proofs.SliceWalks.{Walk}
use Rattle.clock.proofs.Clock.sift_beside.Given as goal

abbrev pub invariant-loop-i : goal.invariant-loop-i
invariant-loop-i l =
    (l.i ≤ length l.xs) × (l.j ≤ length l.ys)
    × Sifting clock_of (kept l.same l.ys) (λ d. d) [] l.xs l.i l.out × Walk l.ys l.j l.xs l.i

abbrev pub decreases-loop-i : goal.decreases-loop-i
decreases-loop-i l = (length l.xs - l.i) + (length l.ys - l.j)
