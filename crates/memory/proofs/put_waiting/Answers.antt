-- `put_waiting` meets its contract.
use borrow.Author.Tests.{eq-eqb, ne_eqb, lt-ltb, le-ltb}
use Rattle.memory.specs.Putting.{waiting_put}
use Rattle.memory.proofs.put_waiting.Goals as goal

pub returns-then-r-eq-WAITING_DOT : goal.returns-then-r-eq-WAITING_DOT
unfolding waiting_put
returns-then-r-eq-WAITING_DOT c = rw (
  ← c.count-n.ensures.0,
  lt-ltb _ _ c.if-k-n.true,
  eq-eqb _ _ c.if-r-eq-WAITING_DOT.true,
) c.put_dot.ensures

pub returns-else-r-eq-WAITING_DOT : goal.returns-else-r-eq-WAITING_DOT
unfolding waiting_put
returns-else-r-eq-WAITING_DOT c = rw (
  ← c.count-n.ensures.0,
  lt-ltb _ _ c.if-k-n.true,
  ne_eqb _ _ c.if-r-eq-WAITING_DOT.false,
) c.put_key.ensures

pub returns-then-k-lt-WAITING : goal.returns-then-k-lt-WAITING
unfolding waiting_put
returns-then-k-lt-WAITING c = rw (
  ← c.count-n.ensures.0,
  le-ltb _ _ c.if-k-n.false,
  eq-eqb _ _ c.if-r-eq-WAITING_DOT-2.true,
  eq-eqb _ _ c.if-k-n-2.true,
  lt-ltb _ _ c.if-k-lt-WAITING.true,
) c.begin_removal.ensures

pub returns-else-k-lt-WAITING : goal.returns-else-k-lt-WAITING
unfolding waiting_put
returns-else-k-lt-WAITING c = rw (
  ← c.count-n.ensures.0,
  le-ltb _ _ c.if-k-n.false,
  eq-eqb _ _ c.if-r-eq-WAITING_DOT-2.true,
  eq-eqb _ _ c.if-k-n-2.true,
  le-ltb _ _ c.if-k-lt-WAITING.false,
) c.lose.ensures

pub returns-else-k-n-2 : goal.returns-else-k-n-2
unfolding waiting_put
returns-else-k-n-2 c = rw (
  ← c.count-n.ensures.0,
  le-ltb _ _ c.if-k-n.false,
  eq-eqb _ _ c.if-r-eq-WAITING_DOT-2.true,
  ne_eqb _ _ c.if-k-n-2.false,
) c.lose-else-k-n-2.ensures

pub returns-else-r-eq-WAITING_DOT-2 : goal.returns-else-r-eq-WAITING_DOT-2
unfolding waiting_put
returns-else-r-eq-WAITING_DOT-2 c = rw (
  ← c.count-n.ensures.0,
  le-ltb _ _ c.if-k-n.false,
  ne_eqb _ _ c.if-r-eq-WAITING_DOT-2.false,
) c.lose-else-r-eq-WAITING_DOT-2.ensures
