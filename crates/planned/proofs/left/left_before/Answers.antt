-- `left_before` meets its contract: the loop passes equal dots of what is left.
use mathlib.Core.Path.{◌≡◌, ap₂, sym, ◌∙◌}
use mathlib.Core.Logic.{inl, inr}
use mathlib.Core.List.{◌∷◌}
use Prim.Native.Nat.{◌+◌, ◌/◌, ◌<◌}
use lib.ListN.{length}
use borrow.Author.Tests.{ltb-true}
use Rattle.removals.specs.Waits.{clock_before}
use Rattle.removals.proofs.ClockOrder.{before-actor, before-counter, before-rest}
use Rattle.runs.specs.Run.{run_dots}
use Rattle.marks.specs.Marks.{picked}
use Rattle.marks.proofs.Dots.{length_run}
use Rattle.planned.proofs.Comparing.{left_from, next-dot, compared}
use borrow.Author.Rules.{rules}
use native.Mathlib.Omega.{arith}
use Rattle.planned.proofs.left.left_before.Goals.{then-loop-i-test+else-j-m, else-loop-i-test, After-dot_at-e}
use Rattle.planned.proofs.left.left_before.Goals as goal

pub loop-i-init : goal.loop-i-init
loop-i-init c =
    let a = c.next_left-i.ensures in
    let b = c.next_left-j.ensures in
    ((a.0.1, b.0.1), ((a.1.0, b.1.0), ap₂ clock_before (a.1.1 _ (length_run _)) (b.1.1 _ (length_run _))), (search rules, search rules))

pub dot_at-e-requires : goal.dot_at-e-requires
dot_at-e-requires c = omega (arith, ltb-true)

-- what is left begins with the two dots
meet : (c : After-dot_at-e) → let s = c.before.before.before.before in let a = s.args
    in
    clock_before (picked a.mine (run_dots a.x.now)) (picked a.yours (run_dots a.y.now))
    ≡ clock_before (c.dot_at-d.result ∷ left_from a.x.now a.mine (s.loop-i.i + 1))
    (c.dot_at-e.result ∷ left_from a.y.now a.yours (s.loop-i.j + 1))
meet c =
    let s = c.before.before.before.before in
    let g = s.loop-i.invariant in
    let k : s.loop-i.j < length s.args.y.now / 16 = c.if-j-m.true in
    let a = s.args in
    g.1.1 ∙ ap₂ clock_before (next-dot a.x.now a.mine s.loop-i.i (let n = g.2.0 in omega (arith, n))
    c.loop-i-test.true (g.1.0.0 c.loop-i-test.true) c.dot_at-d.ensures)
    (next-dot a.y.now a.yours s.loop-i.j (let n = g.2.1 in omega (arith, n)) k (g.1.0.1 k) c.dot_at-e.ensures)

pub returns-then-d-e : goal.returns-then-d-e
returns-then-d-e c = before-actor _ _ _ _ c.if-d-e.true ∙ sym (meet (goal.at.returns-then-d-e c).After-dot_at-e)

pub returns-then-d-e-2 : goal.returns-then-d-e-2
returns-then-d-e-2 c = before-counter _ _ _ _ c.if-d-e.false c.if-d-e-2.true
    ∙ sym (meet (goal.at.returns-then-d-e-2 c).After-dot_at-e)

pub loop-i-preserved : goal.loop-i-preserved
loop-i-preserved c =
    let a = c.next_left-i-in-loop-i.ensures in
    let b = c.next_left-j-in-loop-i.ensures in (
      (a.0.1, b.0.1),
      (
        (a.1.0, b.1.0),
        meet (goal.at.loop-i-preserved c).After-dot_at-e
            ∙ before-rest _ _ _ _ c.if-d-e.false c.if-d-e-2.false
            ∙ ap₂ clock_before (a.1.1 _ (length_run _)) (b.1.1 _ (length_run _)),
      ),
      c.loop-i.invariant.2,
    )

pub returns : goal.returns
returns c =
    let g = c.loop-i.invariant in
    let a = c.args in
    compared a.x.now a.mine c.loop-i.i a.y.now a.yours c.loop-i.j
    (elim c.loop-i-test.branch [
      | then-loop-i-test+else-j-m w ↦ inr w.if-j-m.false
      | else-loop-i-test w ↦ inl (omega (arith, w.loop-i-test.false))
    ]) (λ k. (omega arith, g.1.0.1 k))
    ∙ sym g.1.1

pub next_left-j-requires-in-loop-i : goal.next_left-j-requires-in-loop-i
next_left-j-requires-in-loop-i c = omega (arith, ltb-true)
