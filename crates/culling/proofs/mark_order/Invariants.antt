-- `mark_order` meets its contract: the loop takes step 3 in order, with the last record kept.
use Rattle.std.specs.Option.{is_some, unwrap_or}
use Rattle.opimage.specs.OpImage.{no_record}
use Rattle.culling.specs.Marks.{marked_of}
use Rattle.culling.proofs.Ordered.{Ordering}
use Rattle.culling.proofs.mark_order.Given as goal

abbrev pub invariant-loop-i : goal.invariant-loop-i
invariant-loop-i l = Ordering (marked_of l.initial.marks l.image) l.i (marked_of l.marks l.image) (is_some l.last) (unwrap_or l.last no_record)
