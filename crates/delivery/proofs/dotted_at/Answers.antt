-- `dotted_at` meets its contract: the loop stops at a value with no dot.
use mathlib.Core.Path.{refl, sym, ◌∙◌}
use Rattle.memory.specs.Memory.{value_place}
use Rattle.delivery.proofs.Views.{values-left, values-end}
use Rattle.delivery.proofs.Lookups.{dotted-fails, dotted-on, dotted-none}
use native.Mathlib.Omega.{arith}
use Rattle.delivery.proofs.dotted_at.Goals as goal

pub returns-then-dots-eq0 : goal.returns-then-dots-eq0
returns-then-dots-eq0 c =
    let a = c.args in
    sym (c.loop-i.invariant ∙ dotted-fails a.mem.now (value_place a.j c.loop-i.i) (values-left a.mem.now a.j c.loop-i.i (omega arith))
    (omega (arith, c.count-dots.ensures, c.if-dots-eq0.true)))

pub loop-i-preserved : goal.loop-i-preserved
loop-i-preserved c =
    let a = c.args in
    c.loop-i.invariant ∙ dotted-on a.mem.now (value_place a.j c.loop-i.i) (values-left a.mem.now a.j c.loop-i.i (omega arith))
    (λ e. c.if-dots-eq0.false (c.count-dots.ensures.0 ∙ e))

pub returns : goal.returns
returns c =
    let a = c.args in
    sym (c.loop-i.invariant ∙ dotted-none (values-end a.mem.now a.j c.loop-i.i (omega arith)))

pub loop-i-init : goal.loop-i-init
loop-i-init c = refl
