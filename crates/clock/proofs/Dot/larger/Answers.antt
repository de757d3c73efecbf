-- `Dot::larger` meets its contract.
use borrow.Author.Tests.{lt-ltb, le-ltb}
use Rattle.clock.proofs.Dot.larger.Goals as goal

pub returns-then-self-other : goal.returns-then-self-other
returns-then-self-other c = rw (lt-ltb _ _ c.if-self-other.true)

pub returns-else-self-other : goal.returns-else-self-other
returns-else-self-other c = rw (le-ltb _ _ c.if-self-other.false)
