-- `covers_at` meets its contract: the loop looks for a dot beyond the clock.
use mathlib.Core.Path.{◌≡◌, refl, ap, sym, ◌∙◌}
use mathlib.Core.List.{◌∷◌}
use Prim.Native.Nat.{◌+◌}
use lib.ListN.{drop}
use Rattle.memory.specs.Memory.{dots_at}
use Rattle.delivery.proofs.Views.{dots-left, dots-end}
use Rattle.delivery.proofs.Lookups.{covers-fails, covers-on, covers-none}
use native.Mathlib.Omega.{arith}
use Rattle.delivery.proofs.covers_at.Goals.{After-dot_at-d}
use Rattle.delivery.proofs.covers_at.Goals as goal

-- the dot that was read is the next
next : (c : After-dot_at-d) → let a = c.args in
    drop c.loop-i.i (dots_at a.mem.now a.other) ≡ c.dot_at-d.result ∷ drop (c.loop-i.i + 1) (dots_at a.mem.now a.other)
next c =
    let a = c.args in
    dots-left a.mem.now a.other c.loop-i.i (omega arith) ∙ ap (λ d. d ∷ drop (c.loop-i.i + 1) (dots_at a.mem.now a.other))
    (sym c.dot_at-d.ensures)

pub returns-then-counter_at-d : goal.returns-then-counter_at-d
returns-then-counter_at-d c =
    sym (c.loop-i.invariant ∙ covers-fails _ (next c.before.before.before) (omega (arith, c.counter_at.ensures, c.if-counter_at-d.true)))

pub loop-i-preserved : goal.loop-i-preserved
loop-i-preserved c =
    c.loop-i.invariant ∙ covers-on _ (next c.before.before.before)
    (omega (arith, c.counter_at.ensures, c.if-counter_at-d.false))

pub returns : goal.returns
returns c =
    let a = c.args in
    sym (c.loop-i.invariant ∙ covers-none _ (dots-end a.mem.now a.other c.loop-i.i (omega arith)))

pub loop-i-init : goal.loop-i-init
loop-i-init c = refl
