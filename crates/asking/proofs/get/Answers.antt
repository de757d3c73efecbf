-- `get` meets its contract.
use Rattle.asking.specs.Asking.{read_key}
use Rattle.asking.proofs.get.Goals as goal

pub returns : goal.returns
unfolding read_key
returns c = rw (c.only-entries.ensures, c.new-waiting.ensures)
