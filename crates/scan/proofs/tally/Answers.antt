-- `tally` meets its contract.
use borrow.Author.Tests.{not-true, not-false, lt-ltb, le-ltb}
use mathlib.Core.Bool.{not}
use mathlib.Core.Path.{ap}
use Rattle.scan.proofs.tally.Goals as goal

pub returns-then-not-group : goal.returns-then-not-group
returns-then-not-group c = rw (not-true c.args.group (ap not c.if-not-group.true))

pub returns-then-same : goal.returns-then-same
returns-then-same c = rw (not-false c.args.group (ap not c.if-not-group.false), c.if-same.true)

pub returns-then-n-lt256 : goal.returns-then-n-lt256
returns-then-n-lt256 c = rw (not-false c.args.group (ap not c.if-not-group.false), c.if-same.false, lt-ltb _ _ c.if-n-lt256.true)

pub returns-else-n-lt256 : goal.returns-else-n-lt256
returns-else-n-lt256 c = rw (not-false c.args.group (ap not c.if-not-group.false), c.if-same.false, le-ltb _ _ c.if-n-lt256.false)
