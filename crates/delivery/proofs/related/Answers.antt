-- `related` meets its contract.
use Rattle.delivery.proofs.related.Goals as goal

pub returns : goal.returns
returns c = rw (c.entries_whole.ensures, c.waiting_ascends.ensures)
