-- `left_before` meets its contract: the loop passes equal dots of what is left.
use mathlib.Core.Path.{◌≡◌}
use mathlib.Core.Bool.{true, false}
use Prim.Native.Nat.{◌≤◌, ◌<◌, ◌-◌}
use lib.ListN.{length, get_or}
use Rattle.limits.specs.Limits.{dot_limit}
use Rattle.removals.specs.Waits.{clock_before}
use Rattle.runs.specs.Run.{run_dots}
use Rattle.marks.specs.Marks.{picked}
use Rattle.planned.proofs.Comparing.{left_from}
use Rattle.planned.proofs.left.left_before.Given as goal

abbrev pub invariant-loop-i : goal.invariant-loop-i
invariant-loop-i l =
    ((l.i ≤ l.n) × (l.j ≤ l.m)) × (((l.i < l.n → get_or l.mine l.i false ≡ true) × (l.j < l.m → get_or l.yours l.j false ≡ true))
    × (clock_before (picked l.mine (run_dots l.x)) (picked l.yours (run_dots l.y))
    ≡ clock_before (left_from l.x l.mine l.i) (left_from l.y l.yours l.j)))
    × ((length l.mine ≡ dot_limit) × (length l.yours ≡ dot_limit))

abbrev pub decreases-loop-i : goal.decreases-loop-i
decreases-loop-i l = l.n - l.i
