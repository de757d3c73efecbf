-- `Clock::same_actors` meets its contract: at each place both have the same actor, behind the last one.
use mathlib.Core.Path.{◌≡◌, refl, ap, ap₂, sym, ◌∙◌}
use mathlib.Core.Bool.{not}
use mathlib.Core.Logic.{⊎_elim}
use lib.ListN.{length}
use Rattle.listlaws.specs.Rise.{alike}
use Rattle.listlaws.proofs.SliceAlike.{alike_end, alike-apart}
use Rattle.listlaws.proofs.SliceRising.{stops, goes}
use Rattle.clock.specs.Walking.{same_actors}
use native.Mathlib.Omega.{arith}
use Rattle.clock.proofs.Clock.same_actors.Goals as goal

pub returns-then-xs-ys : goal.returns-then-xs-ys
unfolding same_actors
returns-then-xs-ys c = rw (← c.as_slice-xs.ensures, ← c.as_slice-ys.ensures)
    (alike-apart (λ d. d.actor) 0 _ _ c.if-xs-ys.true)

pub loop-x-init : goal.loop-x-init
loop-x-init c =
    let z = c.zip-x-items.ensures in
    rw (c.into_iter-x-iterator.ensures.into_iter_gives, z.first, z.second.0, c.iter.ensures.rest, ← c.as_slice-xs.ensures, ← c.as_slice-ys.ensures)
    (c.if-xs-ys.false, refl)

pub returns-then-not-low-actor : goal.returns-then-not-low-actor
unfolding same_actors alike
returns-then-not-low-actor c =
    let s = c.in-Some.ensures.steps in
    stops _ _ (c.loop-x.invariant.1 ∙ ap₂ (alike (λ d. d.actor) c.loop-x.low) s.0 s.1) (ap not c.if-not-low-actor.true)

pub loop-x-preserved : goal.loop-x-preserved
unfolding alike
loop-x-preserved c =
    let s = c.in-Some.ensures.steps in (
      omega (arith, c.loop-x.invariant.0, ap length s.0, ap length s.1),
      goes _ _ (c.loop-x.invariant.1 ∙ ap₂ (alike (λ d. d.actor) c.loop-x.low) s.0 s.1) (ap not c.if-not-low-actor.false),
    )

pub returns : goal.returns
unfolding same_actors
returns c =
    let g = c.loop-x.invariant in
    let a = c.loop-x.x-iterator.a.rest.now in
    let b = c.loop-x.x-iterator.b.rest.now in
    let h : length a ≡ 0 = ⊎_elim (λ x. x.1.0) (λ x. omega (arith, g.0, x.1.0)) c.in-None.ensures.steps in
    sym (g.1 ∙ alike_end (λ d. d.actor) a b 0 c.loop-x.low (omega arith) (omega (arith, g.0)))
