-- `put_record` meets its contract.
use borrow.Author.Tests.{eq-eqb, ne_eqb, lt-ltb, le-ltb}
use Rattle.memory.specs.Putting.{record_put}
use Rattle.memory.proofs.put_record.Goals as goal

pub returns-then-r-eq-CLOCK_DOT : goal.returns-then-r-eq-CLOCK_DOT
unfolding record_put
returns-then-r-eq-CLOCK_DOT c = rw (eq-eqb _ _ c.if-r-eq-CLOCK_DOT.true) c.put_dot.ensures

pub returns-then-r-lt-WAITING_DOT : goal.returns-then-r-lt-WAITING_DOT
unfolding record_put
returns-then-r-lt-WAITING_DOT c = rw (ne_eqb _ _ c.if-r-eq-CLOCK_DOT.false, lt-ltb _ _ c.if-r-lt-WAITING_DOT.true) c.put_entry.ensures

pub returns-else-r-lt-WAITING_DOT : goal.returns-else-r-lt-WAITING_DOT
unfolding record_put
returns-else-r-lt-WAITING_DOT c = rw (
  ne_eqb _ _ c.if-r-eq-CLOCK_DOT.false,
  le-ltb _ _ c.if-r-lt-WAITING_DOT.false,
  c.put_waiting.ensures,
  c.wide.ensures,
)
