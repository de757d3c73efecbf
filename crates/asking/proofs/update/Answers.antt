-- `update` meets its contract.
use mathlib.Core.Path.{◌∙◌}
use Rattle.asking.specs.Asking.{make_update}
use Rattle.asking.proofs.update.Goals as goal

pub returns : goal.returns
unfolding make_update
returns c = c.update.ensures ∙ rw (c.derive_add_ctx-ctx.ensures, c.read_ctx.ensures)
