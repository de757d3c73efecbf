-- `Keys::new` meets its contract.
use Rattle.listlaws.specs.Pad.{pad}
use borrow.Author.Rules.{rules}
use Rattle.removals.proofs.Keys.new.Goals as goal

pub returns : goal.returns
unfolding pad
returns c = search rules
