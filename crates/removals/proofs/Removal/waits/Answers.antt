-- `Removal::waits` meets its contract, by that of `compare`.
use Rattle.removals.specs.Waits.{waits}
use Rattle.removals.proofs.Removal.waits.Goals as goal

pub returns-in-Less : goal.returns-in-Less
unfolding waits
returns-in-Less c = rw (← c.compare-o.ensures, c.in-Less.is)

pub returns-in-Concurrent : goal.returns-in-Concurrent
unfolding waits
returns-in-Concurrent c = rw (← c.compare-o.ensures, c.in-Concurrent.is)

pub returns-in-Equal : goal.returns-in-Equal
unfolding waits
returns-in-Equal c = rw (← c.compare-o.ensures, c.in-Equal.is)

pub returns-in-Greater : goal.returns-in-Greater
unfolding waits
returns-in-Greater c = rw (← c.compare-o.ensures, c.in-Greater.is)
