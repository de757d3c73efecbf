-- `Entry::cut` meets its contract, by the clock's and the register's.
use Rattle.clock.proofs.Packs.{cut_left}
use Rattle.entries.specs.Entries.{cut_entry}
use Rattle.entries.proofs.Entry.cut.Goals as goal

pub returns : goal.returns
unfolding cut_entry
returns c = rw (cut_left _ _ c.cut.ensures, c.cut-register.ensures)
