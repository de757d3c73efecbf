-- `write_report` meets its contract: the loop writes what is told of a record a turn.
use Prim.Native.Nat.{◌<◌, ◌/◌}
use native.Mathlib.Omega.{arith}
use lib.ListN.{length}
use Rattle.salvage.proofs.Telling.{tell-start, tell-room, tell-on, tell-end, told_here, told-skip, told-end}
use Rattle.salvage.proofs.write_report.Goals.{then-mark-ne0, else-mark-ne0}
use Rattle.salvage.proofs.write_report.Goals as goal

pub loop-i-init : goal.loop-i-init
loop-i-init c = tell-start _ _ c.requires.3

pub step_of-requires : goal.step_of-requires
step_of-requires c = c.requires.1 c.loop-i.i
    (omega (arith, c.loop-i-test.true))

pub write_told-next-requires : goal.write_told-next-requires
write_told-next-requires c =
    let a = c.args in
    let h : c.loop-i.i < length a.image.now / 16 = omega (arith, c.loop-i-test.true) in
    tell-room c.loop-i.invariant (told_here a.marks.now a.image.now
    c.requires.0 c.loop-i.i h c.if-mark-ne0.true)

pub returns : goal.returns
returns c =
    let a = c.args in
    tell-end c.loop-i.invariant (told-end a.marks.now a.image.now c.requires.0 c.loop-i.i (omega
    (arith, c.loop-i-test.false)))

pub loop-i-preserved : goal.loop-i-preserved
loop-i-preserved c =
    let s = c.args.image.now in
    let marks = c.args.marks.now in
    let p = c.requires in
    let i = c.loop-i.i in
    let h : i < length s / 16 = c.loop-i-test.true in
    elim c.if-mark-ne0.branch [
      | then-mark-ne0 w ↦
          rw (w.out-is, w.next-is)
          (tell-on c.loop-i.invariant (told_here marks s p.0 i h w.if-mark-ne0.true)
          (rw (← w.step_of.ensures) w.write_told-next.ensures))
      | else-mark-ne0 w ↦
          rw (w.out-is, w.next-is, ← told-skip marks s p.0 i h w.if-mark-ne0.false) c.loop-i.invariant
    ]
