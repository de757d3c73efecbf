-- `update` meets its contract: each way out is a law of `Ways`.
use mathlib.Core.Path.{◌≡◌, refl, ap, sym, ◌∙◌}
use Rattle.asking.specs.declared.Made.{Made}
use Rattle.promises.proofs.Ways.{first_out, own-out, op-out}
use Rattle.making.proofs.Made.{update-is}
use Rattle.maprecords.specs.Related.{read_map}
use Rattle.asking.specs.Asking.{make_update}
use Rattle.promises.specs.Calls.{given}
use Rattle.making.proofs.update.Goals.{After-update-made}
use Rattle.making.proofs.update.Goals as goal

pub returns-then-l-ne0 : goal.returns-then-l-ne0
returns-then-l-ne0 c = first_out _ _ c.lay_out-l.ensures.0 c.if-l-ne0.true c.word.ensures

-- what is made is what the map's definition names
made_is : (c : After-update-made) → let a = c.args in
    c.update-made.result ≡ make_update (read_map a.map.now).map a.actor a.key (given a.value a.origin)
made_is c =
    let a = c.args in
    update-is (read_map a.map.now).map a.actor a.key (given a.value a.origin) (c.lay_out-l.ensures.1 c.if-l-ne0.false).clock
    c.derive_add_ctx.ensures c.update-made.ensures

pub returns-then-made-ne0 : goal.returns-then-made-ne0
returns-then-made-ne0 c =
    let l = c.lay_out-l.ensures in
    let e = made_is (goal.at.returns-then-made-ne0 c).After-update-made in
    own-out _ _ (sym l.0 ∙ c.if-l-ne0.false) refl (ap (λ (m : Made). m.number) e) c.if-made-ne0.true c.word-then-made-ne0.ensures

pub returns : goal.returns
returns c =
    let l = c.lay_out-l.ensures in
    let e = made_is (goal.at.returns c).After-update-made in
    op-out _ (sym l.0 ∙ c.if-l-ne0.false) e (rw (c.if-made-ne0.false, c.told.ensures) c.give_op.ensures.0)
