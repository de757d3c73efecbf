-- `put_entry` meets its contract.
use borrow.Author.Tests.{eq-eqb, ne_eqb, lt-ltb, le-ltb}
use Rattle.memory.specs.Putting.{entry_put}
use Rattle.memory.proofs.put_entry.Goals as goal

pub returns-then-j-n : goal.returns-then-j-n
unfolding entry_put
returns-then-j-n c = rw (
  ← c.count-n.ensures.0,
  ← c.find-j.ensures,
  lt-ltb _ _ c.if-j-n.true,
) c.put_known.ensures

pub returns-then-n-lt-ENTRIES : goal.returns-then-n-lt-ENTRIES
unfolding entry_put
returns-then-n-lt-ENTRIES c = rw (
  ← c.count-n.ensures.0,
  ← c.find-j.ensures,
  le-ltb _ _ c.if-j-n.false,
  eq-eqb _ _ c.if-r-eq-ENTRY_DOT.true,
  lt-ltb _ _ c.if-n-lt-ENTRIES.true,
) c.begin_entry.ensures

pub returns-else-n-lt-ENTRIES : goal.returns-else-n-lt-ENTRIES
unfolding entry_put
returns-else-n-lt-ENTRIES c = rw (
  ← c.count-n.ensures.0,
  ← c.find-j.ensures,
  le-ltb _ _ c.if-j-n.false,
  eq-eqb _ _ c.if-r-eq-ENTRY_DOT.true,
  le-ltb _ _ c.if-n-lt-ENTRIES.false,
) c.lose.ensures

pub returns-else-r-eq-ENTRY_DOT : goal.returns-else-r-eq-ENTRY_DOT
unfolding entry_put
returns-else-r-eq-ENTRY_DOT c = rw (
  ← c.count-n.ensures.0,
  ← c.find-j.ensures,
  le-ltb _ _ c.if-j-n.false,
  ne_eqb _ _ c.if-r-eq-ENTRY_DOT.false,
) c.lose-else-r-eq-ENTRY_DOT.ensures
