-- `any_long` meets its contract: a removal a turn.
use mathlib.Core.Path.{refl, sym, ◌∙◌}
use native.Mathlib.Omega.{arith}
use Rattle.queued.proofs.Counting.{long-yes, long-no, long-end}
use Rattle.queued.proofs.rows.any_long.Goals as goal

pub loop-c-init : goal.loop-c-init
loop-c-init c = λ result f. refl

pub returns-then-c-gt-KEYS : goal.returns-then-c-gt-KEYS
returns-then-c-gt-KEYS c = λ result few f.
    let i = c.loop-c.c-index in
    sym (c.loop-c.invariant result f ∙ long-yes result i (f i (omega arith)) c.if-c-gt-KEYS.true)

pub loop-c-preserved : goal.loop-c-preserved
loop-c-preserved c = λ result f.
    let i = c.loop-c.c-index in
    c.loop-c.invariant result f ∙ long-no result i (f i (omega arith)) c.if-c-gt-KEYS.false

pub returns : goal.returns
returns c = λ result few f. sym (c.loop-c.invariant result f ∙ long-end result c.loop-c.c-index (omega arith))
