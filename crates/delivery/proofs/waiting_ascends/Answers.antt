-- `waiting_ascends` meets its contract: the loop stops at a clock that does not stand behind the one before it.
use mathlib.Core.Path.{◌≡◌, refl, ap₂, sym, ◌∙◌}
use Prim.Native.Nat.{◌-◌}
use borrow.Author.Tests.{not-true, not-false}
use Rattle.clock.specs.declared.Clock.{Clock}
use Rattle.clock.specs.Dots.{dots_of}
use Rattle.removals.specs.Waits.{clock_before, removal_before}
use Rattle.memory.specs.Memory.{removal_at}
use Rattle.delivery.proofs.Ascends.{ascend-on, ascend-fails, ascend-end}
use native.Mathlib.Omega.{arith}
use mathlib.Core.Bool.{not}
use mathlib.Core.Path.{ap}
use Rattle.delivery.proofs.waiting_ascends.Goals.{After-clock_before}
use Rattle.delivery.proofs.waiting_ascends.Goals as goal

pub loop-k-init : goal.loop-k-init
loop-k-init c = refl

-- two neighbours in the memory
compared : (c : After-clock_before) → let w = c.args.mem.now in
    c.clock_before.result ≡ removal_before (removal_at w (c.loop-k.k - 1)) (removal_at w c.loop-k.k)
compared c =
    c.clock_before.ensures ∙ ap₂ (λ (x y : Clock). clock_before (dots_of x) (dots_of y))
    c.clock_at-before.ensures c.clock_at-after.ensures

pub returns-then-not-clock_before : goal.returns-then-not-clock_before
returns-then-not-clock_before c =
    ascend-fails c.args.mem.now c.loop-k.k c.loop-k.auto.k c.loop-k.invariant (omega arith)
    (sym (compared c.before) ∙ not-true _ (ap not c.if-not-clock_before.true))

pub loop-k-preserved : goal.loop-k-preserved
loop-k-preserved c =
    ascend-on c.args.mem.now c.loop-k.k c.loop-k.auto.k c.loop-k.invariant (omega arith)
    (sym (compared c.before) ∙ not-false _ (ap not c.if-not-clock_before.false))

pub returns : goal.returns
returns c =
    ascend-end c.args.mem.now c.loop-k.k c.loop-k.auto.k c.loop-k.invariant (omega arith)
