-- `castribba_ready_actor` meets its contract.
use mathlib.Core.Path.{refl, ap, ◌∙◌}
use Rattle.verdicts.specs.declared.ReadyVerdict.{ReadyVerdict}
use Rattle.readiness.specs.Ready.{ready_actor}
use Rattle.verdicts.proofs.Carrying.{ready-carried}
use Rattle.castribba.proofs.castribba_ready_actor.Goals as goal

pub returns : goal.returns
returns c =
    c.ready_actor.ensures
    ∙ ap (λ (v : ReadyVerdict). ready_actor v.ready) c.ready-v.ensures
    ∙ ready-carried ready_actor refl refl refl _ _ _
