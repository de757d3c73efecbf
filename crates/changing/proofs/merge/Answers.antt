-- `merge` meets its contract: each way out is a law of `Ways`.
use mathlib.Core.Path.{refl, sym, ◌∙◌}
use Rattle.map.specs.Judging.{judged}
use Rattle.map.specs.Merging.{merge}
use Rattle.maprecords.specs.Related.{read_map}
use Rattle.promises.proofs.Ways.{first_out, second-out, map-out}
use Rattle.changing.proofs.merge.Goals as goal

pub returns-then-a-ne0 : goal.returns-then-a-ne0
returns-then-a-ne0 f = first_out _ _ f.lay_out-a.ensures.0 f.if-a-ne0.true f.word.ensures

pub returns-then-b-ne0 : goal.returns-then-b-ne0
returns-then-b-ne0 f = second-out _ _ (sym f.lay_out-a.ensures.0
    ∙ f.if-a-ne0.false) f.lay_out-b.ensures.0 f.if-b-ne0.true f.word-then-b-ne0.ensures

pub merge_with-requires : goal.merge_with-requires
merge_with-requires f =
    let x = f.lay_out-a.ensures in
    let y = f.lay_out-b.ensures in
    let n = f.if-a-ne0.false in
    let m = f.if-b-ne0.false in
    ((x.1 n, y.1 m), (sym x.0 ∙ n, sym y.0 ∙ m))

pub returns : goal.returns
returns f =
    let a = f.args in
    map-out _ _ {j = judged (merge (read_map a.map.now).map (read_map a.other.now).map)}
    (sym f.lay_out-a.ensures.0
    ∙ f.if-a-ne0.false)
    (sym f.lay_out-b.ensures.0 ∙ f.if-b-ne0.false) refl
    f.merge_with.ensures
