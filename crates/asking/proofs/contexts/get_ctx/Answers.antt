-- `get_ctx` meets its contract, by that of `Entries::at`.
use Rattle.asking.proofs.contexts.get_ctx.Goals as goal

pub returns : goal.returns
returns c = rw c.at-e.ensures
