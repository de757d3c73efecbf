-- `read_op` meets its contract: every record is handed to the reader, which is then asked.
use Rattle.records.proofs.Feeding.{Feeding}
use Rattle.opimage.specs.SoFar.{OpSoFar}
use Rattle.opimage.proofs.read_op.Given as goal

abbrev pub invariant-loop-i : goal.invariant-loop-i
invariant-loop-i l = Feeding OpSoFar l.bytes l.i l.reader
