-- `Register::new` meets its contract.
use Rattle.listlaws.specs.Pad.{pad}
use Rattle.register.proofs.Register.new.Goals as goal

pub returns : goal.returns
unfolding pad
returns c = rw c.new-none.ensures
