-- `Clock::covers` meets its contract, by that of `compare`.
use Rattle.clock.proofs.Walks.{over-told}
use Rattle.clock.proofs.Clock.covers.Goals as goal

pub returns-in-Equal : goal.returns-in-Equal
returns-in-Equal c = rw (← over-told, ← c.compare-o.ensures, c.in-Equal.is)

pub returns-in-Greater : goal.returns-in-Greater
returns-in-Greater c = rw (← over-told, ← c.compare-o.ensures, c.in-Greater.is)

pub returns-in-Less : goal.returns-in-Less
returns-in-Less c = rw (← over-told, ← c.compare-o.ensures, c.in-Less.is)

pub returns-in-Concurrent : goal.returns-in-Concurrent
returns-in-Concurrent c = rw (← over-told, ← c.compare-o.ensures, c.in-Concurrent.is)
