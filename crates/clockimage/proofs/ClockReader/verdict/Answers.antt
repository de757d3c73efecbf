-- `ClockReader::verdict` meets its contract: a refusal of the scan is handed on.
use mathlib.Core.Path.{refl, ◌∙◌, ap}
use borrow.Author.Tests.{ne_eqb}
use Rattle.refusals.specs.Numbers.{number_for}
use Rattle.refusals.proofs.Handed.{handed, number-some}
use Rattle.scan.proofs.Numbers.{scan-min}
use Rattle.clockimage.specs.ClockImage.{clock_reading}
use Rattle.clockimage.proofs.ClockReader.verdict.Goals as goal

pub returns-in_err-verdict : goal.returns-in_err-verdict
returns-in_err-verdict c l s =
    let n = (rw s.scanned.number at c.in_err-verdict.ensures) ∙ scan-min 1 1 l in
    ap clock_reading (handed c.from_residual.result _ c.from_residual.ensures.1) ∙ rw (← n, ne_eqb _ _ (number-some c.in_err-verdict.field-0.0)) refl
