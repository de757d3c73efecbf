-- `verdict` meets its contract: the first number that is not 0.
use mathlib.Core.Path.{ap, sym, ◌∙◌}
use mathlib.Core.Bool.{cond}
use Rattle.maprecords.specs.Related.{length_number}
use Rattle.refusals.specs.Numbers.{number_told}
use Rattle.refusals.proofs.Handed.{handed, number-some}
use Rattle.delivery.proofs.Ends.{number-of-length, number-of-records, number-of-all}
use Rattle.delivery.proofs.verdict.Goals as goal

pub returns-in_err-check_length : goal.returns-in_err-check_length
returns-in_err-check_length c =
    ap number_told (handed c.from_residual.result _ c.from_residual.ensures.1)
    ∙ number-of-length _ (c.in_err-check_length.ensures ∙ ap length_number c.read32-len.ensures) (number-some c.in_err-check_length.field-0.0)

pub returns-in_err-verdict : goal.returns-in_err-verdict
returns-in_err-verdict c =
    ap number_told (handed c.from_residual-in_err-verdict.result _ c.from_residual-in_err-verdict.ensures.1)
    ∙ number-of-records _ (sym (c.in_ok-check_length.ensures ∙ ap length_number c.read32-len.ensures)) c.in_err-verdict.ensures
    (number-some c.in_err-verdict.field-0.0)

pub returns-then-related : goal.returns-then-related
returns-then-related c =
    number-of-all _ (sym (c.in_ok-check_length.ensures ∙ ap length_number c.read32-len.ensures)) (sym c.in_ok-verdict.ensures)
    (ap (λ b. cond b 0 3) (sym c.if-related.true ∙ c.related.ensures))

pub returns-else-related : goal.returns-else-related
returns-else-related c =
    number-of-all _ (sym (c.in_ok-check_length.ensures ∙ ap length_number c.read32-len.ensures)) (sym c.in_ok-verdict.ensures)
    (ap (λ b. cond b 0 3) (sym c.if-related.false ∙ c.related.ensures))
