-- `seek` meets its contract: the loop passes the dots of earlier actors.
use mathlib.Core.Path.{refl, sym, ◌∙◌}
use borrow.Author.Tests.{eq-eqb, ne_eqb, lt-ltb, le-ltb}
use Rattle.clock.specs.Dots.{no_dot, dots_of}
use Rattle.keeping.proofs.Seeks.{sought-here, sought-later, sought-past, sought-end}
use native.Mathlib.Omega.{arith}
use Rattle.keeping.proofs.seek.Goals as goal

pub loop-i-init : goal.loop-i-init
loop-i-init c = refl

pub returns-then-d-actor : goal.returns-then-d-actor
returns-then-d-actor c =
    let s = c.before.before.before.before in
    sym (s.loop-i.invariant ∙ sought-here s.args.clock.dots s.args.clock.len _ no_dot (omega (arith, s.requires)) _
    (eq-eqb _ _ c.if-d-actor.true))

pub returns-then-actor-d : goal.returns-then-actor-d
returns-then-actor-d c =
    let t = c.before.before in
    let s = t.before.before.before.before in
    sym (s.loop-i.invariant ∙ sought-past s.args.clock.dots s.args.clock.len _ no_dot (omega (arith, s.requires)) _
    (ne_eqb _ _ t.if-d-actor.false) (lt-ltb _ _ c.if-actor-d.true))

pub loop-i-preserved : goal.loop-i-preserved
loop-i-preserved c =
    let t = c.before.before in
    let s = t.before.before.before.before in
    s.loop-i.invariant ∙ sought-later s.args.clock.dots s.args.clock.len _ no_dot (omega (arith, s.requires)) _
    (ne_eqb _ _ t.if-d-actor.false) (le-ltb _ _ c.if-actor-d.false)

pub returns : goal.returns
returns c =
    let s = c.before in
    sym (s.loop-i.invariant ∙ sought-end (dots_of s.args.clock) _ _ (omega (arith, s.requires)))
