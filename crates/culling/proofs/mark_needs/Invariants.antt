-- `mark_needs` meets its contract: the loop takes step 4 in order, with a scan of what stays.
use mathlib.Core.Path.{◌≡◌}
use lib.ListN.{length}
use Rattle.records.specs.Records.{records_of}
use Rattle.culling.specs.Marks.{marked_of}
use Rattle.culling.proofs.Needed.{Needing}
use Rattle.culling.proofs.mark_needs.Given as goal

abbrev pub invariant-loop-i : goal.invariant-loop-i
invariant-loop-i l = (length l.under ≡ 256)
    × Needing (records_of l.image) (marked_of l.initial.marks l.image) l.i (marked_of l.marks l.image) l.scan l.under
