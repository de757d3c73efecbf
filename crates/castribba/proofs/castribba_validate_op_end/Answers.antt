-- `castribba_validate_op_end` meets its contract.
use mathlib.Core.Path.{ap, ◌∙◌}
use Rattle.verdicts.specs.declared.OpVerdict.{OpVerdict}
use Rattle.asking.specs.Asking.{order_end}
use Rattle.verdicts.proofs.Carrying.{end-carried}
use Rattle.castribba.proofs.castribba_validate_op_end.Goals as goal

pub returns : goal.returns
returns c = c.order_end.ensures ∙ ap (λ (v : OpVerdict). order_end v.order) c.op-v.ensures ∙ end-carried _ _ _
