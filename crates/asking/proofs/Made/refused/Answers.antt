-- `Made::refused` meets its contract.
use Rattle.asking.proofs.Made.refused.Goals as goal

pub returns : goal.returns
returns c = rw c.no_op-op.ensures
