-- `apply` meets its contract: each way out is a law of `Ways`.
use mathlib.Core.Path.{refl, ap, sym, ◌∙◌}
use Rattle.map.specs.Judging.{judged}
use Rattle.map.specs.Applying.{apply}
use Rattle.opimage.specs.OpImage.{ReadOp}
use Rattle.maprecords.specs.Related.{read_map}
use Rattle.refusals.proofs.Handed.{number-some}
use Rattle.promises.proofs.Ways.{first_out, second-out, map-out}
use Rattle.drafting.proofs.Results.{read-update, read-removal, op-short, applied-update, applied-removal}
use Rattle.changing.proofs.apply.Goals as goal

pub returns-then-a-ne0 : goal.returns-then-a-ne0
returns-then-a-ne0 f = first_out _ _ f.lay_out-a.ensures.0 f.if-a-ne0.true f.word.ensures

pub returns-in-Err : goal.returns-in-Err
returns-in-Err f =
    second-out _ _ (sym f.lay_out-a.ensures.0 ∙ f.if-a-ne0.false)
    (ap (λ (r : ReadOp). r.number) f.in-Err.ensures) (number-some _) f.told.ensures

pub update_by-requires : goal.update_by-requires
update_by-requires f =
    let l = f.lay_out-a.ensures in
    let x = f.if-a-ne0.false in
    let k = f.in-Ok.ensures in
    ((l.1 x, sym l.0 ∙ x), (read-update _ k refl f.if-change.true, op-short _ k refl))

pub remove_by-requires : goal.remove_by-requires
remove_by-requires f =
    let l = f.lay_out-a.ensures in
    let x = f.if-a-ne0.false in
    ((l.1 x, sym l.0 ∙ x), read-removal _ f.in-Ok.ensures refl f.if-change.false)

pub returns-then-change : goal.returns-then-change
returns-then-change f =
    let m = (read_map f.args.map.now).map in
    let k = f.in-Ok.ensures in
    map-out _ _ (sym f.lay_out-a.ensures.0 ∙ f.if-a-ne0.false) (sym (ap (λ (r : ReadOp). r.number) k))
    (ap judged (sym (applied-update m _ f.if-change.true)) ∙ ap (λ (r : ReadOp). judged (apply m r.op)) k)
    f.update_by.ensures

pub returns-else-change : goal.returns-else-change
returns-else-change f =
    let m = (read_map f.args.map.now).map in
    let k = f.in-Ok.ensures in
    map-out _ _ (sym f.lay_out-a.ensures.0 ∙ f.if-a-ne0.false) (sym (ap (λ (r : ReadOp). r.number) k))
    (ap judged (sym (applied-removal m _ f.if-change.false)) ∙ ap (λ (r : ReadOp). judged (apply m r.op)) k)
    f.remove_by.ensures
