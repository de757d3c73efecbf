-- `needed` meets its contract: one test decides.
use borrow.Author.Tests.{eq-eqb, ne_eqb}
use Rattle.readiness.proofs.needed.Goals as goal

pub returns-then-d-own : goal.returns-then-d-own
returns-then-d-own c = rw (eq-eqb _ _ c.if-d-own.true)

pub returns-else-d-own : goal.returns-else-d-own
returns-else-d-own c = rw (ne_eqb _ _ c.if-d-own.false)
