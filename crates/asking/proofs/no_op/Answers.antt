-- `no_op` meets its contract.
use Rattle.asking.proofs.no_op.Goals as goal

pub returns : goal.returns
returns c = rw (c.new-removal.ensures, c.new-clock.ensures)
