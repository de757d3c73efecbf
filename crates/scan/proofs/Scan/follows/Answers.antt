-- `Scan::follows` meets its contract.
use Rattle.scan.proofs.Scan.follows.Goals as goal

pub returns : goal.returns
returns c = rw (c.record_ok.ensures, c.before-2.ensures)
