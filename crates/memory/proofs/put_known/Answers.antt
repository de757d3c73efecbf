-- `put_known` meets its contract.
use borrow.Author.Tests.{eq-eqb, ne_eqb}
use Rattle.memory.specs.Putting.{known_put}
use Rattle.memory.proofs.put_known.Goals as goal

pub returns-then-r-eq-ENTRY_DOT : goal.returns-then-r-eq-ENTRY_DOT
unfolding known_put
returns-then-r-eq-ENTRY_DOT c = rw (eq-eqb _ _ c.if-r-eq-ENTRY_DOT.true) c.put_dot.ensures

pub returns-then-r-eq-VALUE : goal.returns-then-r-eq-VALUE
unfolding known_put
returns-then-r-eq-VALUE c = rw (ne_eqb _ _ c.if-r-eq-ENTRY_DOT.false, eq-eqb _ _ c.if-r-eq-VALUE.true) c.put_value.ensures

pub returns-else-r-eq-VALUE : goal.returns-else-r-eq-VALUE
unfolding known_put
returns-else-r-eq-VALUE c = rw (ne_eqb _ _ c.if-r-eq-ENTRY_DOT.false, ne_eqb _ _ c.if-r-eq-VALUE.false) c.put_value_dot.ensures
