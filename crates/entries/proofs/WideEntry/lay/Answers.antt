-- `WideEntry::lay` meets its contract.
use Rattle.entries.proofs.WideEntry.lay.Goals as goal

pub returns : goal.returns
returns c = rw c.settle-laid.ensures
