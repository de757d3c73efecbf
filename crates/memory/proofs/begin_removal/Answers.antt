-- `begin_removal` meets its contract.
use Rattle.memory.specs.Putting.{removal_begun}
use Rattle.memory.proofs.begin_removal.Goals as goal

pub returns : goal.returns
unfolding removal_begun
returns c = rw (
  c.put8-3.ensures,
  c.put8-2.ensures,
  c.put_dot.ensures,
  c.put8.ensures,
)
