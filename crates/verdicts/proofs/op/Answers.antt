-- `op` meets its contract: a refused image's number, or what both say.
use mathlib.Core.Path.{ap, sym, ◌∙◌}
use Rattle.maprecords.specs.Related.{read_map}
use Rattle.opimage.specs.OpImage.{ReadOp}
use Rattle.asking.specs.declared.CmRDTValidation.TheVariants.{Fits}
use Rattle.asking.specs.Asking.{validate_op, order_number}
use Rattle.refusals.proofs.Handed.{number-some}
use Rattle.answers.proofs.Answers.{number-first, number-second, both-pass, one-fails, other-fails}
use Rattle.verdicts.proofs.Carrying.{number_passed, nothing-found, found}
use Rattle.verdicts.proofs.op.Goals as goal

pub returns-then-l-ne0 : goal.returns-then-l-ne0
returns-then-l-ne0 c =
    let m = c.lay_out-l.ensures.0 in
    let p = sym (number-first _ _ m c.if-l-ne0.true) in
    let q = nothing-found _ _ _ Fits (one-fails _ _ (λ e. c.if-l-ne0.true (m ∙ e))) in
    λ i. record { number = p i; order = q i }

pub order_of-order-requires : goal.order_of-order-requires
order_of-order-requires c = c.lay_out-l.ensures.1 c.if-l-ne0.false

pub returns-in-Ok : goal.returns-in-Ok
returns-in-Ok c =
    let m = sym c.lay_out-l.ensures.0 ∙ c.if-l-ne0.false in
    let o = sym (ap (λ (r : ReadOp). r.number) c.in-Ok.ensures) in
    let v = c.order_of-order.ensures ∙ ap (λ (r : ReadOp). validate_op (read_map c.args.map.now).map r.op) c.in-Ok.ensures in
    let p = c.order_number.ensures ∙ ap order_number v ∙ number_passed _ _ _ m o in
    let q = v ∙ found _ _ _ Fits (both-pass _ _ m o) in
    λ i. record { number = p i; order = q i }

pub returns-in-Err : goal.returns-in-Err
returns-in-Err c =
    let m = sym c.lay_out-l.ensures.0 ∙ c.if-l-ne0.false in
    let o = ap (λ (r : ReadOp). r.number) c.in-Err.ensures in
    let s = number-some c.in-Err.refusal in
    let p = c.number.ensures ∙ sym (number-second _ _ m o s) in
    let q = nothing-found _ _ _ Fits (other-fails _ _ m (λ e. s (o ∙ e))) in
    λ i. record { number = p i; order = q i }
