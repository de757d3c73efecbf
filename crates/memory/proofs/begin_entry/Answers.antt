-- `begin_entry` meets its contract.
use Rattle.memory.specs.Putting.{entry_begun}
use Rattle.memory.proofs.begin_entry.Goals as goal

pub returns : goal.returns
unfolding entry_begun
returns c = rw (
  c.put8-3.ensures,
  c.put8-2.ensures,
  c.put_dot.ensures,
  c.put8.ensures,
  c.put32.ensures,
)
