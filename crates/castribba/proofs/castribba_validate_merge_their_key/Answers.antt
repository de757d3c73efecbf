-- `castribba_validate_merge_their_key` meets its contract.
use mathlib.Core.Path.{refl, ap, ◌∙◌}
use Rattle.verdicts.specs.declared.MergeVerdict.{MergeVerdict}
use Rattle.promises.specs.Calls.{spent_theirs}
use Rattle.verdicts.proofs.Carrying.{spent-carried}
use Rattle.castribba.proofs.castribba_validate_merge_their_key.Goals as goal

pub returns : goal.returns
returns c = c.spent_theirs.ensures ∙ ap (λ (v : MergeVerdict). spent_theirs v.spent) c.merge-v.ensures
    ∙ spent-carried spent_theirs refl _ _ _
