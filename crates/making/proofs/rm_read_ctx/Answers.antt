-- `rm_read_ctx` meets its contract: each way out is a law of `Ways`.
use mathlib.Core.Path.{ap, sym, ◌∙◌}
use Rattle.map.specs.declared.Op.{Op}
use Rattle.promises.proofs.Ways.{first_out, op-out}
use Rattle.making.proofs.Made.{removal-is}
use Rattle.making.proofs.rm_read_ctx.Goals as goal

pub returns-then-l-ne0 : goal.returns-then-l-ne0
returns-then-l-ne0 c = first_out _ _ c.lay_out-l.ensures.0 c.if-l-ne0.true c.word.ensures

pub returns : goal.returns
returns c =
    let l = c.lay_out-l.ensures in
    let q = l.1 c.if-l-ne0.false in
    let g = removal-is c.args.key q.lies.within q.clock
    c.rm.ensures in
    rw c.told.ensures (op-out _ (sym l.0 ∙ c.if-l-ne0.false) (ap (λ (x : Op). record { number = 0; op = x }) g) c.give_op.ensures.0)
