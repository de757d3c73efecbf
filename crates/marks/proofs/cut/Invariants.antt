-- `cut` meets its contract: the loop walks the dots that are seen beside the run.
use mathlib.Core.Path.{◌≡◌}
use mathlib.Core.List.{List}
use Prim.Native.Nat.{ℕ, ◌-◌, ◌+◌, ◌<◌}
use lib.ListN.{length, get_or}
use Rattle.limits.specs.Limits.{dot_limit}
use Rattle.clock.specs.declared.Dot.{Dot}
use Rattle.clock.specs.Dots.{no_dot}
use Rattle.clock.specs.Lawful.{Lawful}
use Rattle.runs.specs.Run.{run_dots}
use Rattle.marks.proofs.Cutting.{Cutting}
use Rattle.marks.proofs.cut.Given as goal

abbrev pub invariant-loop-i : goal.invariant-loop-i
invariant-loop-i g l = (length l.initial.left ≡ dot_limit)
    × ((by : List Dot) → Lawful by → length by ≡ l.m → ((j : ℕ) (d : Dot) → j < l.m → goal.F-post g l.seen j d → d ≡ get_or by j no_dot)
    → Cutting by (length by) (run_dots l.run) l.initial.left l.i l.j l.left)

abbrev pub decreases-loop-i : goal.decreases-loop-i
decreases-loop-i g l = (l.n - l.i) + (l.m - l.j)
