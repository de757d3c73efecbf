-- `count_removed` meets its contract: each way out is a law of `Ways`.
use mathlib.Core.Path.{refl, ap, ap₂, sym, ◌∙◌}
use Rattle.maprecords.specs.Related.{ReadMap}
use Rattle.opimage.specs.OpImage.{ReadOp}
use Rattle.map.specs.Judging.{Judged, judged}
use Rattle.map.specs.Applying.{apply}
use Rattle.map.proofs.Kept.{valid-apply}
use Rattle.refusals.proofs.Handed.{handed, number-some}
use Rattle.promises.specs.Deleted.{entry_dots}
use Rattle.promises.proofs.Ways.{first-uncounted, second-uncounted, own-uncounted, nothing-counted, map-counted}
use Rattle.promises.proofs.Deletes.{update-deletes}
use Rattle.byvalue.proofs.Ways.{read-within, read-op-within, op-valid, judged-out, removal-fewer, removal-left}
use Rattle.byvalue.proofs.counting.count_removed.Goals as goal

pub returns-in_err-before : goal.returns-in_err-before
returns-in_err-before c =
    rw (handed c.from_residual.result _ c.from_residual.ensures.1)
    (first-uncounted (ap (λ (r : ReadMap). r.number) c.in_err-before.ensures) (number-some _))

pub returns-in_err-change : goal.returns-in_err-change
returns-in_err-change c =
    rw (handed c.from_residual-in_err-change.result _ c.from_residual-in_err-change.ensures.1)
    (second-uncounted (sym (ap (λ (r : ReadMap). r.number) c.in_ok-before.ensures)) (ap (λ (r : ReadOp). r.number) c.in_err-change.ensures)
    (number-some _))

pub returns-then-change : goal.returns-then-change
returns-then-change c = nothing-counted (update-deletes _ _ (sym (ap (λ (r : ReadOp). r.op.up) c.in_ok-change.ensures) ∙ c.if-change.true))

pub apply-requires : goal.apply-requires
apply-requires c = (read-within _ c.in_ok-before.ensures, read-op-within _ c.in_ok-change.ensures)

pub returns-in_err-after : goal.returns-in_err-after
returns-in_err-after c =
    rw (handed c.from_residual-in_err-after.result _ c.from_residual-in_err-after.ensures.1)
    (own-uncounted (sym (ap (λ (r : ReadMap). r.number) c.in_ok-before.ensures)) (sym (ap (λ (r : ReadOp). r.number) c.in_ok-change.ensures))
    (ap (λ (j : Judged). j.number) (c.in_err-after.ensures
    ∙ ap₂ (λ (m : ReadMap) (o : ReadOp). judged (apply m.map o.op)) c.in_ok-before.ensures c.in_ok-change.ensures)) (number-some _))

pub fewer-requires : goal.fewer-requires
unfolding entry_dots
fewer-requires c = (
  judged-out (valid-apply (read-within _ c.in_ok-before.ensures).valid (op-valid (read-op-within _ c.in_ok-change.ensures))) c.in_ok-after.ensures,
  removal-fewer _ _ c.if-change.false c.in_ok-after.ensures refl,
)

pub returns : goal.returns
unfolding entry_dots
returns c =
    map-counted _ _ (sym (ap (λ (r : ReadMap). r.number) c.in_ok-before.ensures)) (sym (ap (λ (r : ReadOp). r.number) c.in_ok-change.ensures))
    (c.in_ok-after.ensures ∙ ap₂ (λ (m : ReadMap) (o : ReadOp). judged (apply m.map o.op)) c.in_ok-before.ensures c.in_ok-change.ensures)
    (c.fewer.ensures _ (removal-left _ _ c.in_ok-before.ensures c.in_ok-change.ensures c.if-change.false c.in_ok-after.ensures refl))
