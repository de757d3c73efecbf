-- `next_record` meets its contract: the loop keeps the least record above the last.
use Prim.Native.Nat.{◌/◌}
use lib.ListN.{length}
use Rattle.listlaws.proofs.Folding.{Folding}
use Rattle.culling.specs.Marks.{marked_of}
use Rattle.salvage.specs.Selecting.{top_record}
use Rattle.salvage.proofs.Kept.{looked_at}
use Rattle.salvage.proofs.next_record.Given as goal

abbrev pub invariant-loop-i : goal.invariant-loop-i
invariant-loop-i l = Folding (λ b. b) (looked_at l.last) top_record (marked_of l.marks l.image) (length l.image / 16) l.i l.best
