-- `count_told` meets its contract: the loop counts what is told.
use mathlib.Core.Path.{ap, sym, ◌∙◌}
use Prim.Native.Nat.{◌<◌, ◌/◌}
use native.Mathlib.Omega.{arith}
use lib.ListN.{length, length-take}
use lib.Seq.{get_or-take}
use Rattle.salvage.proofs.Telling.{told_here, told-skip, told-end}
use Rattle.salvage.proofs.count_told.Goals.{then-mark-ne0, else-mark-ne0}
use Rattle.salvage.proofs.count_told.Goals as goal

pub loop-mark-init : goal.loop-mark-init
loop-mark-init c = (omega arith, omega arith)

pub loop-mark-preserved : goal.loop-mark-preserved
loop-mark-preserved c =
    let s = c.args.image.now in
    let marks = c.args.marks.now in
    let i = c.loop-mark.mark-index in
    let g = c.loop-mark.invariant in
    let h : i < length s / 16 = omega (arith, c.loop-mark-test.true, length-take (length s / 16) marks) in
    let e = get_or-take (length s / 16) marks i 0 h in
    elim c.if-mark-ne0.branch [
      | then-mark-ne0 w ↦
          let t = ap length (told_here marks s c.requires i h (λ q. w.if-mark-ne0.true (e ∙ q))) in
          rw w.count-is (omega (arith, g.0), omega (arith, g.1, t))
      | else-mark-ne0 w ↦
          let t = ap length (told-skip marks s c.requires i h (sym e ∙ w.if-mark-ne0.false)) in
          rw w.count-is (omega (arith, g.0), omega (arith, g.1, t))
    ]

pub returns : goal.returns
returns c =
    let s = c.args.image.now in
    let t = length-take (length s / 16) c.args.marks.now in
    let e = ap length (told-end c.args.marks.now s c.requires c.loop-mark.mark-index (omega (arith, c.loop-mark-test.false, t, c.requires))) in
    (omega (arith, c.loop-mark.invariant.1, e), omega (arith, c.loop-mark.auto.mark-index-end, t, c.loop-mark.invariant.0))
