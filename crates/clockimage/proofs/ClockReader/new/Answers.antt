-- `ClockReader::new` meets its contract.
use Rattle.listlaws.specs.Sift.{sift}
use Rattle.clockimage.proofs.ClockReader.new.Goals as goal

pub returns : goal.returns
unfolding sift
returns c = record { scanned = c.new-scan.ensures 1 1; clock = λ _. c.new-clock.ensures }
