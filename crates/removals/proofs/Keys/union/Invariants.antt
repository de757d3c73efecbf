-- `Keys::union` meets its contract: the loop walks both sets side by side, and the rest of one goes behind.
use Prim.Native.Nat.{◌≤◌, ◌-◌, ◌+◌}
use lib.ListN.{length}
use Rattle.std.specs.Prelude.{Some}
use Rattle.listlaws.specs.Order.{by}
use Rattle.listlaws.proofs.SliceWeaving.{Weaving}
use Rattle.removals.specs.Counted.{united_as}
use Rattle.removals.proofs.Keys.union.Given as goal

abbrev pub invariant-loop-i : goal.invariant-loop-i
invariant-loop-i l =
    (l.i ≤ length l.xs) × (l.j ≤ length l.ys) × Weaving united_as (by (λ k. k)) (λ k. k) (λ k. k) (λ x y. x) l.xs l.i l.ys l.j (Some l.out)

abbrev pub decreases-loop-i : goal.decreases-loop-i
decreases-loop-i l = (length l.xs - l.i) + (length l.ys - l.j)
