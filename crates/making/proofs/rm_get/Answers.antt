-- `rm_get` meets its contract: each way out is a law of `Ways`.
use mathlib.Core.Path.{ap, sym, ◌∙◌}
use Rattle.clock.specs.declared.Clock.{Clock}
use Rattle.map.specs.declared.Op.{Op}
use Rattle.promises.proofs.Ways.{first_out, op-out}
use Rattle.making.proofs.Made.{removal_under}
use Rattle.making.proofs.rm_get.Goals as goal

pub returns-then-l-ne0 : goal.returns-then-l-ne0
returns-then-l-ne0 c = first_out _ _ c.lay_out-l.ensures.0 c.if-l-ne0.true c.word.ensures

pub clock_at-held-requires : goal.clock_at-held-requires
clock_at-held-requires c = (c.lay_out-l.ensures.1 c.if-l-ne0.false).lies

pub returns : goal.returns
returns c =
    let l = c.lay_out-l.ensures in
    let key = c.args.key in
    let g = c.rm.ensures ∙ ap (λ (x : Clock). removal_under x key)
    c.clock_at-held.ensures in
    rw c.told.ensures (op-out _ (sym l.0 ∙ c.if-l-ne0.false) (ap (λ (x : Op). record { number = 0; op = x }) g) c.give_op.ensures.0)
