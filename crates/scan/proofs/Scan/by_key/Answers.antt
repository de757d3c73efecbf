-- `Scan::by_key` meets its contract.
use Rattle.scan.proofs.Scan.by_key.Goals as goal

pub returns : goal.returns
returns c = rw (c.tally.ensures, c.tally-2.ensures, c.tally-3.ensures)
