-- `Clock::join` meets its contract: the loop walks both clocks side by side, and the rest of one goes behind.
use mathlib.Core.Path.{ap, sym, ◌∙◌}
use mathlib.Core.List.{map-id}
use mathlib.Core.Logic.{◌⊎◌, inl, inr}
use Prim.Native.Nat.{◌≤◌}
use lib.ListN.{length, drop}
use borrow.Author.Tests.{lt-ltb, le-ltb}
use Rattle.listlaws.proofs.SliceWeaving.{weaving-start, weaving-first, weaving-second, weaving-both, weaving-end}
use Rattle.clock.specs.Dots.{no_dot, fitted, join_dots}
use Rattle.clock.proofs.Packs.{to-end}
use native.Mathlib.Omega.{arith}
use Rattle.clock.proofs.Clock.join.Goals.{then-loop-i-test+else-j-ys, else-loop-i-test}
use Rattle.clock.proofs.Clock.join.Goals as goal

pub loop-i-init : goal.loop-i-init
loop-i-init c = (omega arith, omega arith, weaving-start c.new-out.ensures)

pub loop-i-preserved-then-x-y : goal.loop-i-preserved-then-x-y
loop-i-preserved-then-x-y c =
    let h = c.loop-i-test.true in
    let k = c.if-j-ys.true in
    (omega arith, omega arith, weaving-first no_dot c.loop-i.invariant.2 h k (lt-ltb _ _ c.if-x-y.true) c.push-out.ensures)

pub loop-i-preserved-then-y-x : goal.loop-i-preserved-then-y-x
loop-i-preserved-then-y-x c = (
  omega arith,
  omega arith,
  weaving-second no_dot c.loop-i.invariant.2 c.loop-i-test.true c.if-j-ys.true (le-ltb _ _ c.if-x-y.false)
      (lt-ltb _ _ c.if-y-x.true) c.push-out-then-y-x.ensures,
)

pub loop-i-preserved : goal.loop-i-preserved
loop-i-preserved c = (
  omega arith,
  omega arith,
  weaving-both no_dot c.loop-i.invariant.2 c.loop-i-test.true c.if-j-ys.true (le-ltb _ _ c.if-x-y.false)
      (le-ltb _ _ c.if-y-x.false) (rw (← c.larger.ensures) c.push-out-else-y-x.ensures),
)

pub returns : goal.returns
unfolding join_dots
returns c =
    let g = c.loop-i.invariant.2 in
    let left : (length c.as_slice-xs.result.now ≤ c.loop-i.i) ⊎ (length c.as_slice-ys.result.now ≤ c.loop-i.j) =
    elim c.loop-i-test.branch [
      | then-loop-i-test+else-j-ys w ↦ inr w.if-j-ys.false
      | else-loop-i-test w ↦ inl w.loop-i-test.false
    ] in
    let xs = c.as_slice-xs in
    let ys = c.as_slice-ys in
    let e = rw (map-id (drop c.loop-i.i xs.result.now), map-id (drop c.loop-i.j ys.result.now)) at (weaving-end g left) in
    let t = rw (to-end c.loop-i.i xs.result.now, to-end c.loop-i.j ys.result.now) at (c.trail-2.ensures _ (c.trail.ensures _ g.growing.packed)) in
    rw (← xs.ensures, ← ys.ensures) (t ∙ ap fitted (sym e))
