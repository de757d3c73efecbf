-- `put_value` meets its contract.
use borrow.Author.Tests.{eq-eqb, ne_eqb, lt-ltb, le-ltb}
use Rattle.memory.specs.Putting.{value_put}
use Rattle.memory.proofs.put_value.Goals as goal

pub returns-then-k : goal.returns-then-k
unfolding value_put
returns-then-k c = rw (
  eq-eqb _ _ c.if-k-r.true,
  lt-ltb _ _ c.if-k.true,
  c.put8-then-k.ensures,
  c.put16.ensures,
  c.put8.ensures,
  c.put64.ensures,
  c.wide.ensures,
)

pub returns-else-k : goal.returns-else-k
unfolding value_put
returns-else-k c = rw (eq-eqb _ _ c.if-k-r.true, le-ltb _ _ c.if-k.false) c.lose.ensures

pub returns-else-k-r : goal.returns-else-k-r
unfolding value_put
returns-else-k-r c = rw (ne_eqb _ _ c.if-k-r.false) c.lose-else-k-r.ensures
