-- `put8` meets its contract.
use Rattle.records.proofs.Placing.{placed_one}
use Rattle.records.proofs.put8.Goals as goal

pub returns : goal.returns
returns c = placed_one _ _ _ c.requires
