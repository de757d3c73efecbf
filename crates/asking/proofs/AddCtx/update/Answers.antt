-- `AddCtx::update` meets its contract.
use mathlib.Core.Path.{◌∙◌}
use borrow.Author.Tests.{eq-eqb, ne_eqb}
use Rattle.asking.specs.Asking.{update_under}
use Rattle.asking.proofs.AddCtx.update.Goals as goal

pub returns-then-number-ne0 : goal.returns-then-number-ne0
unfolding update_under
returns-then-number-ne0 c = c.refused.ensures ∙ rw (ne_eqb _ _ c.if-number-ne0.true)

pub returns : goal.returns
unfolding update_under
returns c = rw (c.new-removal.ensures, eq-eqb _ _ c.if-number-ne0.false)
