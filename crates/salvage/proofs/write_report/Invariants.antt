-- `write_report` meets its contract: the loop writes what is told of a record a turn.
use Rattle.salvagerules.specs.Report.{told_from}
use Rattle.culling.specs.Marks.{marked_of}
use Rattle.salvage.specs.Selecting.{steps_in}
use Rattle.salvage.proofs.Telling.{Telling, told_after}
use Rattle.salvage.proofs.write_report.Given as goal

abbrev pub invariant-loop-i : goal.invariant-loop-i
invariant-loop-i l = Telling (told_from 0 (steps_in (marked_of l.marks l.image))) (told_after l.marks l.image l.i) l.initial.out l.out l.next
