-- `grown` meets its contract: each way out is a law of `Advances`.
use mathlib.Core.Path.{ap, sym, ◌∙◌}
use native.Mathlib.Omega.{arith}
use Rattle.clock.specs.declared.Joined.{Joined}
use Rattle.refusals.proofs.Handed.{handed, number-some}
use Rattle.advance.specs.Advancing.{advanced_in}
use Rattle.advance.proofs.Advances.{refused-stays, full-stays, grows, seen-stays}
use Rattle.advance.proofs.grown.Goals as goal

pub returns-in_err-check_lent : goal.returns-in_err-check_lent
returns-in_err-check_lent c =
    ap (advanced_in c.args.clock) (handed c.from_residual.result _ c.from_residual.ensures.1)
    ∙ refused-stays _ _ _ c.in_err-check_lent.ensures.0 (number-some _)

pub returns-then-counter-get : goal.returns-then-counter-get
returns-then-counter-get c = seen-stays _ _ _ (sym c.in_ok-check_lent.ensures.0) (omega (arith, c.get.ensures, c.if-counter-get.true))

pub returns-then-grown : goal.returns-then-grown
returns-then-grown c =
    full-stays _ _ _ (sym c.in_ok-check_lent.ensures.0) (sym (ap (λ (j : Joined). j.over) c.add-grown.ensures) ∙ c.if-grown.true)

pub returns : goal.returns
returns c =
    grows _ _ _ (sym c.in_ok-check_lent.ensures.0) (omega (arith, c.get.ensures, c.if-counter-get.false)) c.add-grown.ensures c.if-grown.false
