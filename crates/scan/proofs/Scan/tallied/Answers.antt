-- `Scan::tallied` meets its contract.
use borrow.Author.Tests.{eq-eqb, ne_eqb}
use Rattle.scan.proofs.Scan.tallied.Goals as goal

pub returns-then-r-eq-WAITING_KEY : goal.returns-then-r-eq-WAITING_KEY
returns-then-r-eq-WAITING_KEY c = rw (eq-eqb _ _ c.if-r-eq-WAITING_KEY.true) c.by_index.ensures

pub returns-else-r-eq-WAITING_KEY : goal.returns-else-r-eq-WAITING_KEY
returns-else-r-eq-WAITING_KEY c = rw (ne_eqb _ _ c.if-r-eq-WAITING_KEY.false) c.by_key.ensures
