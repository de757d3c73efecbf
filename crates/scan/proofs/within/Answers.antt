-- `within` meets its contract.
use Rattle.scan.proofs.within.Goals as goal

pub returns : goal.returns
returns c = rw (c.limit.ensures, c.limit-2.ensures, c.limit-3.ensures)
