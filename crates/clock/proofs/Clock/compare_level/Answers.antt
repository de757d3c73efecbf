-- `Clock::compare_level` meets its contract: the walk over both clocks meets the same actor at each place.
use mathlib.Core.Path.{refl, ap, ap₂, sym, ◌∙◌}
use mathlib.Core.Bool.{not}
use mathlib.Core.Logic.{⊎_elim}
use Prim.Native.Nat.{◌≤◌}
use lib.ListN.{length, length-drop}
use Rattle.listlaws.proofs.SliceAlike.{alike-here, alike-length, alike-ascends, alike_turned}
use Rattle.clock.specs.Dots.{no_dot, dots_of, outcome, order_of}
use Rattle.clock.specs.Walking.{same_actors}
use Rattle.clock.proofs.Walks.{both-gone}
use Rattle.clock.proofs.SliceWalks.{covering-start, covering-both, covering-all, covering-gone, dropped}
use native.Mathlib.Omega.{arith}
use Rattle.clock.proofs.Clock.compare_level.Goals as goal

pub loop-x-init : goal.loop-x-init
unfolding same_actors
loop-x-init c =
    let z = c.zip-x-items.ensures in
    let xs = dots_of c.args.self in
    let ys = dots_of c.args.other in
    let t = c.requires in
    let a = alike-ascends (λ d. d.actor) 0 xs ys t in
    let b = alike-ascends (λ d. d.actor) 0 ys xs (alike_turned (λ d. d.actor) 0 xs ys t) in
    rw (c.into_iter-x-iterator.ensures.into_iter_gives, z.first, z.second.0, c.iter.ensures.rest)
    (0, c.as_slice.ensures, c.as_slice-2.ensures, covering-start a b, covering-start b a, (0, t))

pub returns-then-not-over-under : goal.returns-then-not-over-under
unfolding order_of
returns-then-not-over-under c =
    let g = c.loop-x.invariant in
    let t = both-gone _ _ (ap not c.if-not-over-under.true) in
    rw (covering-gone g.3 t.0, covering-gone g.4 t.1)

pub loop-x-preserved : goal.loop-x-preserved
loop-x-preserved c =
    let s = c.in-Some.ensures.steps in
    let g = c.loop-x.invariant in
    let p = dropped _ _ _ _ (sym g.1 ∙ s.0) in
    let q = dropped _ _ _ _ (sym g.2 ∙ s.1) in
    let r = alike-here (λ d. d.actor) _ _ _ g.5.0 no_dot p.0 q.0 refl g.5.1 in
    (_, p.2, q.2, rw (p.1, q.1) at (covering-both g.3 p.0 q.0 r.0), rw (p.1, q.1) at (covering-both g.4 q.0 p.0 (sym r.0)), (_, r.1))

pub returns : goal.returns
unfolding order_of same_actors
returns c =
    let g = c.loop-x.invariant in
    let xs = dots_of c.args.self in
    let ys = dots_of c.args.other in
    let l = alike-length (λ d. d.actor) 0 xs ys c.requires in
    let h : length xs ≤ g.0 =
    ⊎_elim (λ x. omega (arith, x.1.0, ap length g.1, length-drop g.0 xs)) (λ x. omega (arith, l, x.1.0, ap length g.2, length-drop g.0 ys))
    c.in-None.ensures.steps in
    c.outcome.ensures ∙ ap₂ outcome (covering-all g.3 (omega (arith, l))) (covering-all g.4 h)
