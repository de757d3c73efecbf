-- `Scan::new` meets its contract.
use Rattle.scan.proofs.Scanning.{scanned-none}
use Rattle.scan.proofs.Scan.new.Goals as goal

pub returns : goal.returns
returns c low high = scanned-none low high _
