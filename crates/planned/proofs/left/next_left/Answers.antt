-- `next_left` meets its contract: the loop passes what is not marked.
use mathlib.Core.Path.{◌≡◌, refl, ap, ◌∙◌}
use Prim.Native.Nat.{ℕ}
use lib.ListN.{drop}
use Rattle.clock.specs.Dots.{no_dot}
use Rattle.marks.specs.Marks.{picked}
use Rattle.marks.proofs.Picks.{picked-no}
use native.Mathlib.Omega.{arith}
use Rattle.planned.proofs.left.next_left.Goals as goal

pub loop-i-init : goal.loop-i-init
loop-i-init c = λ l e. refl

pub returns-then-marks-i : goal.returns-then-marks-i
returns-then-marks-i c = ((omega arith, omega arith), (λ h. c.if-marks-i.true, c.loop-i.invariant))

pub loop-i-preserved : goal.loop-i-preserved
loop-i-preserved c = λ l e. c.loop-i.invariant l e ∙ picked-no _ l c.loop-i.i no_dot (omega arith) (omega arith) c.if-marks-i.false

pub returns : goal.returns
returns c =
    let e : c.loop-i.i ≡ c.args.n = omega arith in (
      (omega arith, omega arith),
      (λ h. absurd (omega arith), λ l n. c.loop-i.invariant l n ∙ ap (λ (j : ℕ). picked (drop j c.args.marks) (drop j l)) e),
    )
