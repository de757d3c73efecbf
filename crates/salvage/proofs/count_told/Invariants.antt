-- `count_told` meets its contract: the loop counts what is told.
use mathlib.Core.Path.{◌≡◌}
use Prim.Native.Nat.{◌+◌, ◌≤◌}
use lib.ListN.{length}
use Rattle.salvagerules.specs.Report.{told_from}
use Rattle.culling.specs.Marks.{marked_of}
use Rattle.salvage.specs.Selecting.{steps_in}
use Rattle.salvage.proofs.Telling.{told_after}
use Rattle.salvage.proofs.count_told.Given as goal

abbrev pub invariant-loop-mark : goal.invariant-loop-mark
invariant-loop-mark l = (l.count ≤ l.mark-index)
    × (l.count + length (told_after l.marks l.image l.mark-index) ≡ length (told_from 0 (steps_in (marked_of l.marks l.image))))
