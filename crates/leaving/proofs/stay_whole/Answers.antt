-- `stay_whole` meets its contract.
use mathlib.Core.Path.{sym, ◌∙◌}
use borrow.Author.Tests.{not-true}
use Rattle.listlaws.proofs.Orders.{apart}
use Rattle.clock.proofs.Empties.{empty-means}
use Rattle.leaving.proofs.stay_whole.Goals as goal

pub returns-then-is_empty : goal.returns-then-is_empty
returns-then-is_empty c = λ t. record {
  no-clock = empty-means _ (sym c.is_empty.ensures ∙ c.if-is_empty.true);
  no-theirs = sym c.any_listed.ensures ∙ c.if-any_listed.false;
  no-ours = sym c.any_listed-then-is_empty.ensures ∙ not-true _ t;
}

pub returns-then-any_listed : goal.returns-then-any_listed
returns-then-any_listed c t = apart (sym t)

pub returns : goal.returns
returns c t = apart (sym t)
