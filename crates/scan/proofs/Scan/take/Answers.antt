-- `Scan::take` meets its contract.
use Rattle.scan.proofs.Scanning.{scanned-more}
use Rattle.scan.proofs.Scan.take.Goals as goal

pub returns : goal.returns
returns c l s u = rw c.next.ensures (scanned-more _ _ l _ _ _ s u)
