-- `castribba_validate_op` meets its contract.
use mathlib.Core.Path.{refl, ap, ◌∙◌}
use Prim.Native.Nat.{◌*◌, ◌^◌}
use Rattle.verdicts.specs.declared.OpVerdict.{OpVerdict}
use Rattle.answers.proofs.Answers.{bare}
use Rattle.castribba.proofs.castribba_validate_op.Goals as goal

pub returns : goal.returns
returns c = c.word.ensures ∙ ap (λ (v : OpVerdict). v.number * 2 ^ 32) c.op-v.ensures ∙ bare _ _ refl refl
