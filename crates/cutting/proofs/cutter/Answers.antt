-- `cutter` meets its contract.
use Rattle.cutting.proofs.cutter.Goals as goal

pub returns-then-all-contains : goal.returns-then-all-contains
returns-then-all-contains c = rw (← c.contains.ensures, c.if-all-contains.true)

pub returns-else-all-contains : goal.returns-else-all-contains
returns-else-all-contains c = rw (← c.contains.ensures, c.if-all-contains.false) c.new-none.ensures
