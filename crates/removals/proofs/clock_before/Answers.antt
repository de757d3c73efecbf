-- `clock_before` meets its contract: the loop passes equal dots.
use mathlib.Core.Path.{refl, ap, ap₂, sym, ◌∙◌}
use mathlib.Core.Logic.{inl, inr, ⊎_elim}
use lib.ListN.{length}
use Rattle.removals.specs.Waits.{clock_before}
use Rattle.removals.proofs.ClockOrder.{before-actor, before-counter, before-rest, before-prefix}
use native.Mathlib.Omega.{arith}
use Rattle.removals.proofs.clock_before.Goals as goal

pub loop-x-init : goal.loop-x-init
loop-x-init c =
    let z = c.zip-x-items.ensures in
    rw (c.into_iter-x-iterator.ensures.into_iter_gives, z.first, z.second.0, c.iter.ensures.rest)
    (omega arith, refl)

pub returns-then-x-y : goal.returns-then-x-y
returns-then-x-y c =
    let s = c.in-Some.ensures.steps in
    rw (← c.as_slice-xs.ensures, ← c.as_slice-ys.ensures)
    (before-actor _ _ _ _ c.if-x-y.true ∙ sym (c.loop-x.invariant.1 ∙ ap₂ clock_before s.0 s.1))

pub returns-then-x-y-2 : goal.returns-then-x-y-2
returns-then-x-y-2 c =
    let s = c.in-Some.ensures.steps in
    rw (← c.as_slice-xs.ensures, ← c.as_slice-ys.ensures)
    (before-counter _ _ _ _ c.if-x-y.false c.if-x-y-2.true ∙ sym (c.loop-x.invariant.1 ∙ ap₂ clock_before s.0 s.1))

pub loop-x-preserved : goal.loop-x-preserved
loop-x-preserved c =
    let s = c.in-Some.ensures.steps in
    let g = c.loop-x.invariant in
    (omega (arith, g.0, ap length s.0, ap length s.1), g.1 ∙ ap₂ clock_before s.0 s.1 ∙ before-rest _ _ _ _ c.if-x-y.false c.if-x-y-2.false)

pub returns : goal.returns
returns c =
    let g = c.loop-x.invariant in
    let h = ⊎_elim (λ x. inl x.1.0) (λ x. inr x.1.0) c.in-None.ensures.steps in
    rw (← c.as_slice-xs.ensures, ← c.as_slice-ys.ensures) (before-prefix _ _ _ _ g.0 h ∙ sym g.1)
