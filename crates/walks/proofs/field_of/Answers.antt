-- `field_of` meets its contract.
use borrow.Author.Tests.{eq-eqb, ne_eqb}
use Rattle.walks.proofs.field_of.Goals as goal

pub returns-then-field-eq-BY_KIND : goal.returns-then-field-eq-BY_KIND
returns-then-field-eq-BY_KIND c = rw (eq-eqb _ _ c.if-field-eq-BY_KIND.true)

pub returns-then-field-eq-BY_KEY : goal.returns-then-field-eq-BY_KEY
returns-then-field-eq-BY_KEY c = rw (ne_eqb _ _ c.if-field-eq-BY_KIND.false, eq-eqb _ _ c.if-field-eq-BY_KEY.true)

pub returns : goal.returns
returns c = rw (ne_eqb _ _ c.if-field-eq-BY_KIND.false, ne_eqb _ _ c.if-field-eq-BY_KEY.false)
