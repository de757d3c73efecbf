-- `castribba_validate_op_start` meets its contract.
use mathlib.Core.Path.{ap, ◌∙◌}
use Rattle.verdicts.specs.declared.OpVerdict.{OpVerdict}
use Rattle.asking.specs.Asking.{order_start}
use Rattle.verdicts.proofs.Carrying.{start-carried}
use Rattle.castribba.proofs.castribba_validate_op_start.Goals as goal

pub returns : goal.returns
returns c = c.order_start.ensures ∙ ap (λ (v : OpVerdict). order_start v.order) c.op-v.ensures ∙ start-carried _ _ _
