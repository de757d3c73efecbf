-- `counter_at` meets its contract: the loop looks for the actor's dot.
use mathlib.Core.Path.{◌≡◌, refl, ap, sym, ◌∙◌}
use mathlib.Core.List.{◌∷◌}
use Prim.Native.Nat.{◌+◌}
use lib.ListN.{drop}
use Rattle.memory.specs.Memory.{dots_at}
use Rattle.delivery.proofs.Views.{dots-left, dots-end}
use Rattle.delivery.proofs.Lookups.{counter-here, counter-on, counter-none}
use native.Mathlib.Omega.{arith}
use Rattle.delivery.proofs.counter_at.Goals.{After-dot_at-d}
use Rattle.delivery.proofs.counter_at.Goals as goal

-- the dot that was read is the next
next : (c : After-dot_at-d) → let a = c.args in
    drop c.loop-i.i (dots_at a.mem.now a.at) ≡ c.dot_at-d.result ∷ drop (c.loop-i.i + 1) (dots_at a.mem.now a.at)
next c =
    let a = c.args in
    dots-left a.mem.now a.at c.loop-i.i (omega arith) ∙ ap (λ d. d ∷ drop (c.loop-i.i + 1) (dots_at a.mem.now a.at))
    (sym c.dot_at-d.ensures)

pub returns-then-d-actor : goal.returns-then-d-actor
returns-then-d-actor c = sym (c.loop-i.invariant ∙ counter-here _ (next c.before.before) c.if-d-actor.true)

pub loop-i-preserved : goal.loop-i-preserved
loop-i-preserved c = c.loop-i.invariant
    ∙ counter-on _ (next c.before.before) c.if-d-actor.false

pub returns : goal.returns
returns c =
    let a = c.args in
    sym (c.loop-i.invariant ∙ counter-none _ (dots-end a.mem.now a.at c.loop-i.i (omega arith)))

pub loop-i-init : goal.loop-i-init
loop-i-init c = refl
