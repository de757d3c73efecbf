-- `castribba_validate_merge` meets its contract.
use mathlib.Core.Path.{refl, ap, ◌∙◌}
use Prim.Native.Nat.{◌*◌, ◌^◌}
use Rattle.verdicts.specs.declared.MergeVerdict.{MergeVerdict}
use Rattle.answers.proofs.Answers.{bare}
use Rattle.castribba.proofs.castribba_validate_merge.Goals as goal

pub returns : goal.returns
returns c = c.word.ensures ∙ ap (λ (v : MergeVerdict). v.number * 2 ^ 32) c.merge-v.ensures ∙ bare _ _ refl refl
