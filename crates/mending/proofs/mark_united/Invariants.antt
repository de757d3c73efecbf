-- `mark_united` meets its contract: the loop takes step 5 in order.
use Rattle.records.specs.Records.{records_of}
use Rattle.culling.specs.Marks.{marked_of}
use Rattle.mending.proofs.Fourths.{Uniting}
use Rattle.mending.proofs.mark_united.Given as goal

abbrev pub invariant-loop-i : goal.invariant-loop-i
invariant-loop-i l = Uniting (records_of l.image) (marked_of l.initial.marks l.image) l.i (marked_of l.marks l.image)
