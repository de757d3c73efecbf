-- `castribba_ready_counter` meets its contract.
use mathlib.Core.Path.{refl, ap, ◌∙◌}
use Rattle.verdicts.specs.declared.ReadyVerdict.{ReadyVerdict}
use Rattle.readiness.specs.Ready.{ready_counter}
use Rattle.verdicts.proofs.Carrying.{ready-carried}
use Rattle.castribba.proofs.castribba_ready_counter.Goals as goal

pub returns : goal.returns
returns c =
    c.ready_counter.ensures
    ∙ ap (λ (v : ReadyVerdict). ready_counter v.ready) c.ready-v.ensures
    ∙ ready-carried ready_counter refl refl refl _ _ _
