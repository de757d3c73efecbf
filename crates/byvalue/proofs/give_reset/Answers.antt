-- `give_reset` meets its contract: each way out is a law of `Ways`.
use mathlib.Core.Path.{ap, ap₂, sym, ◌∙◌}
use Rattle.maprecords.specs.Related.{ReadMap}
use Rattle.clock.specs.Dots.{dots_of}
use Rattle.clockimage.specs.ClockImage.{ReadClock}
use Rattle.map.specs.Judging.{judged}
use Rattle.map.specs.Resetting.{reset}
use Rattle.map.proofs.Kept.{valid-reset}
use Rattle.byvalue.proofs.Ways.{read-within, answer-allowed}
use Rattle.refusals.proofs.Handed.{handed, number-some}
use Rattle.answers.specs.Answer.{word_in}
use Rattle.promises.proofs.Ways.{first_out, second-out, map-out}
use Rattle.byvalue.proofs.give_reset.Goals as goal

pub returns-in_err-m : goal.returns-in_err-m
returns-in_err-m c =
    first_out _ _ (ap (λ (r : ReadMap). r.number) c.in_err-m.ensures) (number-some _)
    (ap word_in (handed c.from_residual.result _ c.from_residual.ensures.1))

pub returns-in_err-by : goal.returns-in_err-by
returns-in_err-by c =
    second-out _ _ (sym (ap (λ (r : ReadMap). r.number) c.in_ok-m.ensures))
    (ap (λ (r : ReadClock). r.number) c.in_err-by.ensures) (number-some _)
    (ap word_in (handed c.from_residual-in_err-by.result _ c.from_residual-in_err-by.ensures.1))

pub reset_remove-requires : goal.reset_remove-requires
reset_remove-requires c = read-within _ c.in_ok-m.ensures

pub give_map-requires : goal.give_map-requires
give_map-requires c = answer-allowed _ (valid-reset (read-within _ c.in_ok-m.ensures).valid _) c.reset_remove.ensures

pub returns : goal.returns
returns c =
    map-out _ _ (sym (ap (λ (r : ReadMap). r.number) c.in_ok-m.ensures)) (sym (ap (λ (r : ReadClock). r.number) c.in_ok-by.ensures))
    (c.reset_remove.ensures
    ∙ ap₂ (λ (m : ReadMap) (k : ReadClock). judged (reset m.map (dots_of k.clock))) c.in_ok-m.ensures c.in_ok-by.ensures) c.give_map.ensures.0
