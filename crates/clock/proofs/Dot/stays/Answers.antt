-- `Dot::stays` meets its contract.
use Rattle.clock.proofs.Dot.stays.Goals as goal

pub returns-then-same : goal.returns-then-same
returns-then-same c = rw c.if-same.true

pub returns-else-same : goal.returns-else-same
returns-else-same c = rw c.if-same.false
