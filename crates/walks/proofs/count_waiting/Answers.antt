-- `count_waiting` meets its contract: the loop follows the definition.
use mathlib.Core.Path.{◌∙◌}
use Prim.Native.Nat.{◌+◌, ◌*◌, ◌-◌}
use borrow.Author.Rules.{rules}
use borrow.Author.Tests.{not-true, not-false}
use native.Mathlib.Omega.{arith}
use lib.ListN.{drop, length-take}
use borrow.Author.Tests.{eq-eqb, ne_eqb}
use Rattle.limits.specs.Limits.{waiting_limit}
use Rattle.walks.proofs.Loops.{clock-between, queue-start, queue-fails, queue-on, queue-stops, going, gone}
use mathlib.Core.Bool.{not}
use mathlib.Core.Path.{ap}
use Rattle.walks.proofs.count_waiting.Goals as goal

pub loop-at-init : goal.loop-at-init
loop-at-init c = (search rules, (search rules, queue-start _ _ _ c.new-last.ensures))

pub clock_of-clock-requires : goal.clock_of-clock-requires
clock_of-clock-requires c =
    let t = c.before.before.before in
    let s = t.args.s.now in
    let g = c.run_end-q.ensures.1 in
    omega (arith, g.1, length-take ((t.loop-at.at + c.run_end-q.result) * 16 - t.loop-at.at * 16) (drop (t.loop-at.at * 16) s))

pub returns-then-not-clock_before : goal.returns-then-not-clock_before
returns-then-not-clock_before c =
    let s = c.before.before.before.before.before.before in
    let g = going s.loop-at.at s.args.l.sixth s.loop-at.n waiting_limit
    c.loop-at-test.true in
    let r = c.run_end-q.ensures in
    queue-fails _ _ _ s.loop-at.invariant.1.1 _ _ _ r.0 r.1.0 (c.clock_of-clock.ensures
    ∙ clock-between _ _ _ (omega arith) (omega arith)) c.clock_before.ensures g.1 g.0 (not-true _ (ap not c.if-not-clock_before.true))

pub loop-at-smaller : goal.loop-at-smaller
loop-at-smaller c =
    let s = c.before.before.before.before.before.before in
    let g = going s.loop-at.at s.args.l.sixth s.loop-at.n waiting_limit
    c.loop-at-test.true in
    omega (arith, g.1)

pub loop-at-preserved : goal.loop-at-preserved
loop-at-preserved c =
    let s = c.before.before.before.before.before.before in
    let g = going s.loop-at.at s.args.l.sixth s.loop-at.n waiting_limit
    c.loop-at-test.true in
    let r = c.run_end-q.ensures in (
      (r.1.0, omega (arith, g.1)),
      (
        s.loop-at.invariant.1.0,
        queue-on _ _ _ s.loop-at.invariant.1.1 _ _ _ r.0 r.1.0
            (c.clock_of-clock.ensures ∙ clock-between _ _ _ (omega arith) (omega arith)) c.clock_before.ensures g.1 g.0
            (not-false _ (ap not c.if-not-clock_before.false)),
      ),
    )

pub returns-then-at-sixth : goal.returns-then-at-sixth
returns-then-at-sixth c =
    let v = c.loop-at.invariant in
    let e = queue-stops _ _ _ v.1.1 v.0.0 (λ k. gone _ _ _ _ c.loop-at-test.false k) in
    rw (eq-eqb _ _ c.if-at-sixth.true) at e

pub returns-else-at-sixth : goal.returns-else-at-sixth
returns-else-at-sixth c =
    let v = c.loop-at.invariant in
    let e = queue-stops _ _ _ v.1.1 v.0.0 (λ k. gone _ _ _ _ c.loop-at-test.false k) in
    rw (ne_eqb _ _ c.if-at-sixth.false) at e
