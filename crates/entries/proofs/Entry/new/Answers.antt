-- `Entry::new` meets its contract.
use Rattle.entries.proofs.Entry.new.Goals as goal

pub returns : goal.returns
returns c = rw (c.new-clock.ensures, c.new-register.ensures)
