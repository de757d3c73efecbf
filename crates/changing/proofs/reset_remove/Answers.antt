-- `reset_remove` meets its contract: each way out is a law of `Ways`.
use mathlib.Core.Path.{ap, sym, ◌∙◌}
use Rattle.clock.specs.Dots.{dots_of}
use Rattle.clockimage.specs.ClockImage.{ReadClock}
use Rattle.map.specs.Judging.{judged}
use Rattle.map.specs.Resetting.{reset}
use Rattle.maprecords.specs.Related.{read_map}
use Rattle.oneimagelaws.proofs.Clocks.{one-clock-image}
use Rattle.refusals.proofs.Handed.{number-some}
use Rattle.promises.proofs.Ways.{first_out, second-out, map-out}
use Rattle.changing.proofs.reset_remove.Goals as goal

pub returns-then-a-ne0 : goal.returns-then-a-ne0
returns-then-a-ne0 f = first_out _ _ f.lay_out-a.ensures.0 f.if-a-ne0.true f.word.ensures

pub returns-in-Err : goal.returns-in-Err
returns-in-Err f =
    second-out _ _ (sym f.lay_out-a.ensures.0 ∙ f.if-a-ne0.false)
    (ap (λ (r : ReadClock). r.number) f.in-Err.ensures) (number-some _) f.told.ensures

pub reset_by-requires : goal.reset_by-requires
reset_by-requires f =
    let k = f.in-Ok.ensures in
    let z = sym (ap (λ (r : ReadClock). r.number) k) in
    let e = ap (λ (r : ReadClock). r.clock) k in
    let x = f.lay_out-a.ensures in
    let n = f.if-a-ne0.false in
    ((x.1 n, sym x.0 ∙ n), rw e (one-clock-image.again _ (λ i. (f.type_inv.clock i).fits) z).0.lawful)

pub returns-in-Ok : goal.returns-in-Ok
returns-in-Ok f =
    let s = f.args.map.now in
    let k = f.in-Ok.ensures in
    map-out _ _ (sym f.lay_out-a.ensures.0 ∙ f.if-a-ne0.false) (sym (ap (λ (r : ReadClock). r.number) k))
    (ap (λ (r : ReadClock). judged (reset (read_map s).map (dots_of r.clock))) k) f.reset_by.ensures
