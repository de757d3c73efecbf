-- `read_clock` meets its contract: every record is handed to the reader, which is then asked.
use Rattle.records.proofs.Feeding.{Feeding}
use Rattle.clockimage.specs.SoFar.{ClockSoFar}
use Rattle.clockimage.proofs.read_clock.Given as goal

abbrev pub invariant-loop-i : goal.invariant-loop-i
invariant-loop-i l = Feeding ClockSoFar l.bytes l.i l.reader
