-- `castribba_validate_merge_counter` meets its contract.
use mathlib.Core.Path.{refl, ap, ◌∙◌}
use Rattle.verdicts.specs.declared.MergeVerdict.{MergeVerdict}
use Rattle.promises.specs.Calls.{spent_counter}
use Rattle.verdicts.proofs.Carrying.{spent-carried}
use Rattle.castribba.proofs.castribba_validate_merge_counter.Goals as goal

pub returns : goal.returns
returns c = c.spent_counter.ensures ∙ ap (λ (v : MergeVerdict). spent_counter v.spent) c.merge-v.ensures
    ∙ spent-carried spent_counter refl _ _ _
