-- `cut_listed_marks` meets its contract: a removal a turn.
use mathlib.Core.List.{List}
use Prim.Native.Nat.{ℕ}
use Rattle.removals.specs.declared.Removal.{Removal}
use Rattle.runs.specs.Run.{run_dots}
use Rattle.marks.specs.Marks.{picked}
use Rattle.queued.specs.Queue.{Queued, Marked}
use Rattle.queued.proofs.Cutting.{MarksCutting}
use Rattle.queued.proofs.cut_listed_marks.Given as goal

abbrev pub invariant-loop-k : goal.invariant-loop-k
invariant-loop-k l = (w : List Removal) (key : ℕ) → Queued l.s l.q w → Marked w key l.under
    → MarksCutting w key (picked l.initial.out (run_dots l.run)) l.k (picked l.out (run_dots l.run))
