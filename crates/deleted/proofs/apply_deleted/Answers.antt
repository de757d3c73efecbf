-- `apply_deleted` meets its contract: each way out is a law of `Ways`.
use mathlib.Core.Path.{refl, ap, sym, ◌∙◌}
use Rattle.map.specs.Judging.{judged}
use Rattle.map.specs.Applying.{apply}
use Rattle.opimage.specs.OpImage.{ReadOp}
use Rattle.maprecords.specs.Related.{read_map}
use Rattle.refusals.proofs.Handed.{number-some}
use Rattle.promises.proofs.Ways.{first-uncounted, second-uncounted, nothing-counted, map-counted}
use Rattle.promises.proofs.Deletes.{update-deletes}
use Rattle.drafting.proofs.Results.{read-removal, applied-removal}
use Rattle.deleted.proofs.Counts.{removal-left}
use Rattle.deleted.proofs.apply_deleted.Goals as goal

pub returns-then-a-ne0 : goal.returns-then-a-ne0
returns-then-a-ne0 c = first-uncounted c.lay_out-a.ensures.0 c.if-a-ne0.true

pub returns-in_default : goal.returns-in_default
returns-in_default c =
    second-uncounted (sym c.lay_out-a.ensures.0 ∙ c.if-a-ne0.false)
    (ap (λ (r : ReadOp). r.number) c.in_default.ensures) (number-some _)

pub returns-then-change : goal.returns-then-change
returns-then-change c = nothing-counted (update-deletes _ _
    (sym (ap (λ (r : ReadOp). r.op.up) c.in-Ok.ensures) ∙ c.if-change.true))

pub removal_deleted-requires : goal.removal_deleted-requires
removal_deleted-requires c =
    let l = c.lay_out-a.ensures in
    let x = c.if-a-ne0.false in
    ((l.1 x, sym l.0 ∙ x), read-removal _ c.in-Ok.ensures refl c.if-change.false)

pub returns : goal.returns
returns c =
    let a = c.args in
    let m = (read_map a.map.now).map in
    let k = c.in-Ok.ensures in
    map-counted _ _ (sym c.lay_out-a.ensures.0 ∙ c.if-a-ne0.false)
    (sym (ap (λ (r : ReadOp). r.number) k))
    (ap judged (sym (applied-removal m _ c.if-change.false)) ∙ ap (λ (r : ReadOp). judged (apply m r.op)) k)
    (c.removal_deleted.ensures _ (removal-left a.map.now a.op.now k c.if-change.false))
