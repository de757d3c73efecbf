-- `ready` meets its contract: a removal may be applied, an update is held against the clock.
use mathlib.Core.Path.{◌∙◌}
use borrow.Author.Tests.{not-true, not-false}
use Rattle.readiness.proofs.ready.Goals as goal

pub returns-then-not-op : goal.returns-then-not-op
returns-then-not-op c = rw (not-true c.args.op.up c.if-not-op.true)

pub returns : goal.returns
returns c = c.ready_under.ensures ∙ rw (not-false c.args.op.up c.if-not-op.false)
