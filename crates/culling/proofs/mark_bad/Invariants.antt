-- `mark_bad` meets its contract: the loop judges a record a turn.
use Rattle.records.specs.Records.{records_of}
use Rattle.culling.specs.Marks.{marked_of}
use Rattle.culling.proofs.Ordered.{Judging}
use Rattle.culling.proofs.mark_bad.Given as goal

abbrev pub invariant-loop-i : goal.invariant-loop-i
invariant-loop-i l = Judging (records_of l.image) l.i (marked_of l.marks l.image)
