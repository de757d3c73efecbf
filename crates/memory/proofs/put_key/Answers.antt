-- `put_key` meets its contract.
use borrow.Author.Tests.{lt-ltb, le-ltb}
use Rattle.memory.specs.Putting.{key_put}
use Rattle.memory.proofs.put_key.Goals as goal

pub returns-then-n : goal.returns-then-n
unfolding key_put
returns-then-n c = rw (
  lt-ltb _ _ c.if-n.true,
  c.put8.ensures,
  c.put32.ensures,
  c.wide.ensures,
)

pub returns-else-n : goal.returns-else-n
unfolding key_put
returns-else-n c = rw (le-ltb _ _ c.if-n.false)
