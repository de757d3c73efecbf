-- `Register::read` meets its contract, by those of `clock_over` and `contents`.
use Rattle.register.specs.Values.{read_of}
use Rattle.register.proofs.Register.read.Goals as goal

pub returns : goal.returns
unfolding read_of
returns c = rw (c.clock_over-joined.ensures, c.contents-contents.ensures)
