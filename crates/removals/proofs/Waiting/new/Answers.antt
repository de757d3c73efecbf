-- `Waiting::new` meets its contract.
use Rattle.listlaws.specs.Pad.{pad}
use Rattle.removals.proofs.Waiting.new.Goals as goal

pub returns : goal.returns
unfolding pad
returns c = rw c.new-none.ensures
