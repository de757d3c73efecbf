-- `Map::apply` meets its contract, by those of the update and the removal.
use mathlib.Core.Path.{◌∙◌}
use Rattle.map.specs.Applying.{apply}
use Rattle.map.proofs.Map.apply.Goals as goal

pub apply_update-requires : goal.apply_update-requires
apply_update-requires c = (c.requires.0, c.requires.1.update c.if-op.true)

pub returns-then-op : goal.returns-then-op
unfolding apply
returns-then-op c = c.apply_update.ensures ∙ rw c.if-op.true

pub returns : goal.returns
unfolding apply
returns c = c.apply_keyset_rm.ensures ∙ rw c.if-op.false
