-- `reset_remove_deleted` meets its contract: each way out is a law of `Ways`.
use mathlib.Core.Path.{ap, sym, ◌∙◌}
use Rattle.clock.specs.Dots.{dots_of}
use Rattle.clockimage.specs.ClockImage.{ReadClock}
use Rattle.map.specs.Judging.{judged}
use Rattle.map.specs.Resetting.{reset}
use Rattle.maprecords.specs.Related.{read_map}
use Rattle.oneimagelaws.proofs.Clocks.{one-clock-image}
use Rattle.refusals.proofs.Handed.{number-some}
use Rattle.promises.proofs.Ways.{first-uncounted, second-uncounted, map-counted}
use Rattle.deleted.proofs.Counts.{reset-left}
use Rattle.deleted.proofs.reset_remove_deleted.Goals as goal

pub returns-then-a-ne0 : goal.returns-then-a-ne0
returns-then-a-ne0 c = first-uncounted c.lay_out-a.ensures.0 c.if-a-ne0.true

pub returns-in_default : goal.returns-in_default
returns-in_default c =
    second-uncounted (sym c.lay_out-a.ensures.0 ∙ c.if-a-ne0.false)
    (ap (λ (r : ReadClock). r.number) c.in_default.ensures) (number-some _)

pub reset_deleted-requires : goal.reset_deleted-requires
reset_deleted-requires c =
    let k = c.in-Ok.ensures in
    let z = sym (ap (λ (r : ReadClock). r.number) k) in
    let e = ap (λ (r : ReadClock). r.clock) k in
    let l = c.lay_out-a.ensures in
    let x = c.if-a-ne0.false in
    ((l.1 x, sym l.0 ∙ x), rw e (one-clock-image.again _ (λ i. (c.type_inv.clock i).fits) z).0.lawful)

pub returns : goal.returns
returns c =
    let a = c.args in
    let k = c.in-Ok.ensures in
    map-counted _ _ (sym c.lay_out-a.ensures.0 ∙ c.if-a-ne0.false)
    (sym (ap (λ (r : ReadClock). r.number) k))
    (ap (λ (r : ReadClock). judged (reset (read_map a.map.now).map (dots_of r.clock))) k)
    (c.reset_deleted.ensures _ (reset-left a.map.now a.clock.now k))
