-- `count_reset` meets its contract: each way out is a law of `Ways`.
use mathlib.Core.Path.{refl, ap, ap₂, sym, ◌∙◌}
use Rattle.maprecords.specs.Related.{ReadMap}
use Rattle.clock.specs.Dots.{dots_of}
use Rattle.clockimage.specs.ClockImage.{ReadClock}
use Rattle.map.specs.Judging.{Judged, judged}
use Rattle.map.specs.Resetting.{reset}
use Rattle.map.proofs.Kept.{valid-reset}
use Rattle.refusals.proofs.Handed.{handed, number-some}
use Rattle.promises.specs.Deleted.{entry_dots}
use Rattle.promises.proofs.Ways.{first-uncounted, second-uncounted, own-uncounted, map-counted}
use Rattle.byvalue.proofs.Ways.{read-within, judged-out, reset-fewer, reset-left}
use Rattle.byvalue.proofs.counting.count_reset.Goals as goal

pub returns-in_err-before : goal.returns-in_err-before
returns-in_err-before c =
    rw (handed c.from_residual.result _ c.from_residual.ensures.1)
    (first-uncounted (ap (λ (r : ReadMap). r.number) c.in_err-before.ensures) (number-some _))

pub returns-in_err-by : goal.returns-in_err-by
returns-in_err-by c =
    rw (handed c.from_residual-in_err-by.result _ c.from_residual-in_err-by.ensures.1)
    (second-uncounted (sym (ap (λ (r : ReadMap). r.number) c.in_ok-before.ensures)) (ap (λ (r : ReadClock). r.number) c.in_err-by.ensures)
    (number-some _))

pub reset_remove-requires : goal.reset_remove-requires
reset_remove-requires c = read-within _ c.in_ok-before.ensures

pub returns-in_err-after : goal.returns-in_err-after
returns-in_err-after c =
    rw (handed c.from_residual-in_err-after.result _ c.from_residual-in_err-after.ensures.1)
    (own-uncounted (sym (ap (λ (r : ReadMap). r.number) c.in_ok-before.ensures)) (sym (ap (λ (r : ReadClock). r.number) c.in_ok-by.ensures))
    (ap (λ (j : Judged). j.number) (c.in_err-after.ensures
    ∙ ap₂ (λ (m : ReadMap) (k : ReadClock). judged (reset m.map (dots_of k.clock))) c.in_ok-before.ensures c.in_ok-by.ensures)) (number-some _))

pub fewer-requires : goal.fewer-requires
unfolding entry_dots
fewer-requires c = (
  judged-out (valid-reset (read-within _ c.in_ok-before.ensures).valid _) c.in_ok-after.ensures,
  reset-fewer _ _ c.in_ok-after.ensures refl,
)

pub returns : goal.returns
unfolding entry_dots
returns c =
    map-counted _ _ (sym (ap (λ (r : ReadMap). r.number) c.in_ok-before.ensures)) (sym (ap (λ (r : ReadClock). r.number) c.in_ok-by.ensures))
    (c.in_ok-after.ensures
    ∙ ap₂ (λ (m : ReadMap) (k : ReadClock). judged (reset m.map (dots_of k.clock))) c.in_ok-before.ensures c.in_ok-by.ensures)
    (c.fewer.ensures _ (reset-left _ _ c.in_ok-before.ensures c.in_ok-by.ensures c.in_ok-after.ensures refl))
