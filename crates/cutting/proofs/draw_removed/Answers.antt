-- `draw_removed` meets its contract.
use Rattle.entries.specs.Entries.{remove_from, remove_entries}
use Rattle.cutting.proofs.draw_removed.Goals as goal

pub returns : goal.returns
unfolding remove_from remove_entries
returns c = c.draw_cut.ensures
