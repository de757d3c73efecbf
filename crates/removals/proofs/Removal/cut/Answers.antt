-- `Removal::cut` meets its contract, by the clock's.
use Rattle.clock.proofs.Packs.{cut_left}
use Rattle.removals.proofs.Removal.cut.Goals as goal

pub returns : goal.returns
returns c = rw (cut_left _ _ c.cut.ensures)
