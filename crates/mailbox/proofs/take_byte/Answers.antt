-- `take_byte` meets its contract.
use borrow.Author.Tests.{eq-eqb, ne_eqb, le-leb, lt-leb}
use Rattle.mailbox.specs.Machine.{byte_in}
use Rattle.mailbox.proofs.take_byte.Goals as goal

pub returns-then-k-eq15 : goal.returns-then-k-eq15
unfolding byte_in
returns-then-k-eq15 c = rw (
  ← c.read32-n.ensures,
  lt-leb _ _ c.if-n.true,
  eq-eqb _ _ c.if-k-eq15.true,
  c.take_record.ensures,
  c.read_record-r.ensures,
  c.put32.ensures,
  c.put8.ensures,
)

pub returns-else-k-eq15 : goal.returns-else-k-eq15
unfolding byte_in
returns-else-k-eq15 c = rw (
  ← c.read32-n.ensures,
  lt-leb _ _ c.if-n.true,
  ne_eqb _ _ c.if-k-eq15.false,
  c.put32.ensures,
  c.put8.ensures,
)

pub returns-else-n : goal.returns-else-n
unfolding byte_in
returns-else-n c = rw (← c.read32-n.ensures, le-leb _ _ c.if-n.false) c.put32-else-n.ensures
