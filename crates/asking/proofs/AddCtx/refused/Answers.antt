-- `AddCtx::refused` meets its contract.
use Rattle.asking.proofs.AddCtx.refused.Goals as goal

pub returns : goal.returns
returns c = rw c.new-clock.ensures
