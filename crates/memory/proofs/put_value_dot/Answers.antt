-- `put_value_dot` meets its contract.
use borrow.Author.Tests.{lt-ltb, le-ltb}
use Rattle.memory.specs.Putting.{value_dot_put}
use Rattle.memory.proofs.put_value_dot.Goals as goal

pub returns-then-k : goal.returns-then-k
unfolding value_dot_put
returns-then-k c = rw (
  lt-ltb _ _ c.if-k-mem.true,
  lt-ltb _ _ c.if-k.true,
  c.put_dot.ensures,
  c.wide.ensures,
)

pub returns-else-k : goal.returns-else-k
unfolding value_dot_put
returns-else-k c = rw (lt-ltb _ _ c.if-k-mem.true, le-ltb _ _ c.if-k.false) c.lose.ensures

pub returns-else-k-mem : goal.returns-else-k-mem
unfolding value_dot_put
returns-else-k-mem c = rw (le-ltb _ _ c.if-k-mem.false) c.lose-else-k-mem.ensures
