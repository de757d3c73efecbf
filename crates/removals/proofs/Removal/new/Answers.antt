-- `Removal::new` meets its contract.
use Rattle.removals.proofs.Removal.new.Goals as goal

pub returns : goal.returns
returns c = rw (c.new-clock.ensures, c.new-keys.ensures)
