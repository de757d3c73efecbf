-- `ready` meets its contract: a refused image's number, or what both say.
use mathlib.Core.Path.{ap, ap₂, sym, ◌∙◌}
use Rattle.opimage.specs.OpImage.{ReadOp}
use Rattle.clock.specs.declared.Clock.{Clock}
use Rattle.clock.specs.Dots.{dots_of}
use Rattle.readiness.specs.declared.Readiness.TheVariants.{Next}
use Rattle.readiness.specs.Ready.{ready_at, ready, ready_number}
use Rattle.refusals.proofs.Handed.{number-some}
use Rattle.answers.proofs.Answers.{number-first, number-second, both-pass, one-fails, other-fails}
use Rattle.verdicts.proofs.Carrying.{number_passed, nothing-found, found}
use Rattle.verdicts.proofs.ready.Goals as goal

pub returns-then-l-ne0 : goal.returns-then-l-ne0
returns-then-l-ne0 c =
    let m = c.lay_out-l.ensures.0 in
    let p = sym (number-first _ _ m c.if-l-ne0.true) in
    let q = nothing-found _ _ _ Next (one-fails _ _ (λ e. c.if-l-ne0.true (m ∙ e))) in
    λ i. record { number = p i; ready = q i }

pub returns-in-Ok : goal.returns-in-Ok
unfolding ready
returns-in-Ok c =
    let mm = c.lay_out-l.ensures in
    let m = sym mm.0 ∙ c.if-l-ne0.false in
    let o = sym (ap (λ (r : ReadOp). r.number) c.in-Ok.ensures) in
    let k = (mm.1 c.if-l-ne0.false).clock in
    let v = c.ready-ready.ensures ∙ ap₂ (λ (l : Clock) (r : ReadOp). ready_at (dots_of l) r.op) k c.in-Ok.ensures in
    let p = c.ready_number.ensures ∙ ap ready_number v ∙ number_passed _ _ _ m o in
    let q = v ∙ found _ _ _ Next (both-pass _ _ m o) in
    λ i. record { number = p i; ready = q i }

pub returns-in-Err : goal.returns-in-Err
returns-in-Err c =
    let m = sym c.lay_out-l.ensures.0 ∙ c.if-l-ne0.false in
    let o = ap (λ (r : ReadOp). r.number) c.in-Err.ensures in
    let s = number-some c.in-Err.refusal in
    let p = c.number.ensures ∙ sym (number-second _ _ m o s) in
    let q = nothing-found _ _ _ Next (other-fails _ _ m (λ e. s (o ∙ e))) in
    λ i. record { number = p i; ready = q i }
