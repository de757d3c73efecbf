-- `validate_op` meets its contract, by that of the update.
use mathlib.Core.Path.{◌∙◌}
use Rattle.asking.specs.Asking.{validate_op}
use Rattle.asking.proofs.validate_op.Goals as goal

pub returns-then-op : goal.returns-then-op
unfolding validate_op
returns-then-op c = c.validate_update.ensures ∙ rw c.if-op.true

pub returns : goal.returns
unfolding validate_op
returns c = rw c.if-op.false
