-- `Clock::compare_beside` meets its contract: the loop walks both clocks side by side, and keeps what each covers of the other.
use mathlib.Core.Path.{ap, ap₂, ◌∙◌}
use mathlib.Core.Bool.{not}
use mathlib.Core.Logic.{◌⊎◌, inl, inr, ⊎_swap}
use Prim.Native.Nat.{◌≤◌}
use lib.ListN.{length}
use Rattle.clock.specs.Dots.{outcome, order_of}
use Rattle.clock.proofs.Walks.{both-gone}
use Rattle.clock.proofs.SliceWalks.{covering-start, covering-past, covering-both, covering-missed, covering-end, covering-gone}
use native.Mathlib.Omega.{arith}
use Rattle.clock.proofs.Clock.compare_beside.Goals.{then-loop-i-test+else-j-ys, else-loop-i-test, After-as_slice-ys}
use Rattle.clock.proofs.Clock.compare_beside.Goals as goal

pub loop-i-init : goal.loop-i-init
loop-i-init c =
    let p = rw (← c.as_slice-xs.ensures, ← c.as_slice-ys.ensures) at c.requires in
    (omega arith, omega arith, covering-start p.0.rising p.1.rising, covering-start p.1.rising p.0.rising)

pub returns-then-not-over-under : goal.returns-then-not-over-under
unfolding order_of
returns-then-not-over-under c =
    let t = both-gone _ _ (ap not c.if-not-over-under.true) in
    rw (← c.as_slice-xs.ensures, ← c.as_slice-ys.ensures, covering-gone c.loop-i.invariant.2 t.0, covering-gone c.loop-i.invariant.3 t.1)

pub loop-i-preserved-then-x-y : goal.loop-i-preserved-then-x-y
loop-i-preserved-then-x-y c =
    let p = rw (← c.as_slice-xs.ensures, ← c.as_slice-ys.ensures) at c.requires in
    let g = c.loop-i.invariant in
    let h = c.loop-i-test.true in
    let k = c.if-j-ys.true in
    (omega arith, omega arith, covering-past g.2 h k c.if-x-y.true, covering-missed g.3 p.0 k h c.if-x-y.true)

pub loop-i-preserved-then-y-x : goal.loop-i-preserved-then-y-x
loop-i-preserved-then-y-x c =
    let p = rw (← c.as_slice-xs.ensures, ← c.as_slice-ys.ensures) at c.requires in
    let g = c.loop-i.invariant in
    let h = c.loop-i-test.true in
    let k = c.if-j-ys.true in
    (omega arith, omega arith, covering-missed g.2 p.1 h k c.if-y-x.true, covering-past g.3 k h c.if-y-x.true)

pub loop-i-preserved : goal.loop-i-preserved
loop-i-preserved c =
    let g = c.loop-i.invariant in
    let h = c.loop-i-test.true in
    let k = c.if-j-ys.true in
    (omega arith, omega arith, covering-both g.2 h k (omega arith), covering-both g.3 k h (omega arith))

pub returns : goal.returns
unfolding order_of
returns c =
    let p = rw (← c.as_slice-xs.ensures, ← c.as_slice-ys.ensures) at c.requires in
    let g = c.loop-i.invariant in
    let left : (length c.as_slice-xs.result.now ≤ c.loop-i.i) ⊎ (length c.as_slice-ys.result.now ≤ c.loop-i.j) =
    elim c.loop-i-test.branch [
      | then-loop-i-test+else-j-ys w ↦ inr w.if-j-ys.false
      | else-loop-i-test w ↦ inl w.loop-i-test.false
    ] in
    rw (← c.as_slice-xs.ensures, ← c.as_slice-ys.ensures)
    (c.outcome.ensures ∙ ap₂ outcome (covering-end g.2 p.1 left) (covering-end g.3 p.0 (⊎_swap left)))
