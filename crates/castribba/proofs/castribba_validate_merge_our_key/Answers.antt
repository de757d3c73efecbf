-- `castribba_validate_merge_our_key` meets its contract.
use mathlib.Core.Path.{refl, ap, ◌∙◌}
use Rattle.verdicts.specs.declared.MergeVerdict.{MergeVerdict}
use Rattle.promises.specs.Calls.{spent_ours}
use Rattle.verdicts.proofs.Carrying.{spent-carried}
use Rattle.castribba.proofs.castribba_validate_merge_our_key.Goals as goal

pub returns : goal.returns
returns c = c.spent_ours.ensures ∙ ap (λ (v : MergeVerdict). spent_ours v.spent) c.merge-v.ensures ∙ spent-carried spent_ours refl _ _ _
