-- `JoinedWaiting::new` meets its contract.
use mathlib.Core.Path.{ap}
use Rattle.listlaws.specs.First.{first_in}
use Rattle.removals.specs.Counted.{joined_as}
use borrow.Author.Rules.{rules}
use Rattle.removals.proofs.JoinedWaiting.new.Goals as goal

pub returns : goal.returns
unfolding joined_as first_in
returns c = (rw c.new-none.ensures, search rules, ap (λ w. w.len) c.new-none.ensures)
