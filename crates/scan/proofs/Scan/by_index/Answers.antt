-- `Scan::by_index` meets its contract.
use Rattle.scan.proofs.Scan.by_index.Goals as goal

pub returns : goal.returns
returns c = rw c.tally.ensures
