-- `give_merged` meets its contract: each way out is a law of `Ways`.
use mathlib.Core.Path.{ap, ap₂, sym, ◌∙◌}
use Rattle.maprecords.specs.Related.{ReadMap}
use Rattle.map.specs.Judging.{judged}
use Rattle.map.specs.Merging.{merge}
use Rattle.map.proofs.Kept.{valid-merge}
use Rattle.byvalue.proofs.Ways.{read-within, answer-allowed}
use Rattle.refusals.proofs.Handed.{handed, number-some}
use Rattle.answers.specs.Answer.{word_in}
use Rattle.promises.proofs.Ways.{first_out, second-out, map-out}
use Rattle.byvalue.proofs.give_merged.Goals as goal

pub returns-in_err-m : goal.returns-in_err-m
returns-in_err-m c =
    first_out _ _ (ap (λ (r : ReadMap). r.number) c.in_err-m.ensures) (number-some _)
    (ap word_in (handed c.from_residual.result _ c.from_residual.ensures.1))

pub returns-in_err-o : goal.returns-in_err-o
returns-in_err-o c =
    second-out _ _ (sym (ap (λ (r : ReadMap). r.number) c.in_ok-m.ensures))
    (ap (λ (r : ReadMap). r.number) c.in_err-o.ensures) (number-some _)
    (ap word_in (handed c.from_residual-in_err-o.result _ c.from_residual-in_err-o.ensures.1))

pub merge-requires : goal.merge-requires
merge-requires c = (read-within _ c.in_ok-m.ensures, read-within _ c.in_ok-o.ensures)

pub give_map-requires : goal.give_map-requires
give_map-requires c = answer-allowed _ (valid-merge (read-within _ c.in_ok-m.ensures).valid (read-within _ c.in_ok-o.ensures).valid) c.merge.ensures

pub returns : goal.returns
returns c =
    map-out _ _ (sym (ap (λ (r : ReadMap). r.number) c.in_ok-m.ensures)) (sym (ap (λ (r : ReadMap). r.number) c.in_ok-o.ensures))
    (c.merge.ensures ∙ ap₂ (λ (m o : ReadMap). judged (merge m.map o.map)) c.in_ok-m.ensures c.in_ok-o.ensures) c.give_map.ensures.0
