-- `castribba_validate_merge_actor` meets its contract.
use mathlib.Core.Path.{refl, ap, ◌∙◌}
use Rattle.verdicts.specs.declared.MergeVerdict.{MergeVerdict}
use Rattle.promises.specs.Calls.{spent_actor}
use Rattle.verdicts.proofs.Carrying.{spent-carried}
use Rattle.castribba.proofs.castribba_validate_merge_actor.Goals as goal

pub returns : goal.returns
returns c = c.spent_actor.ensures ∙ ap (λ (v : MergeVerdict). spent_actor v.spent) c.merge-v.ensures
    ∙ spent-carried spent_actor refl _ _ _
