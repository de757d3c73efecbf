-- `put_dot` meets its contract.
use borrow.Author.Tests.{lt-ltb, le-ltb}
use Rattle.memory.specs.Putting.{dot_put}
use Rattle.memory.proofs.put_dot.Goals as goal

pub returns-then-n : goal.returns-then-n
unfolding dot_put
returns-then-n c = rw (
  lt-ltb _ _ c.if-n.true,
  c.put8.ensures,
  c.put64.ensures,
  c.put16.ensures,
)

pub returns-else-n : goal.returns-else-n
unfolding dot_put
returns-else-n c = rw (le-ltb _ _ c.if-n.false)
