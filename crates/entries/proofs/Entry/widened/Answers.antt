-- `Entry::widened` meets its contract.
use Rattle.entries.proofs.Entry.widened.Goals as goal

pub returns : goal.returns
returns c = rw c.wide-wide.ensures
