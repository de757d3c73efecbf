-- `lose` meets its contract.
use Rattle.memory.specs.Putting.{lose}
use Rattle.memory.proofs.lose.Goals as goal

pub returns : goal.returns
unfolding lose
returns c = c.put8.ensures
