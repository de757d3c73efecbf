-- `Map::new` meets its contract.
use Rattle.map.proofs.Map.new.Goals as goal

pub returns : goal.returns
returns c = rw (c.new-clock.ensures, c.new-entries.ensures, c.new-waiting.ensures)
