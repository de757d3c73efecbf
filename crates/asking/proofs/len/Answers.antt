-- `len` meets its contract, by that of `Entries::size`.
use Rattle.asking.specs.Asking.{count}
use Rattle.asking.proofs.len.Goals as goal

pub returns : goal.returns
unfolding count
returns c = c.size.ensures
