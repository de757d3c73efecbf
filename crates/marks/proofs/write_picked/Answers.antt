-- `write_picked` meets its contract: a record for each dot whose mark is set, one behind the other.
use mathlib.Core.Path.{◌≡◌, ap}
use mathlib.Core.List.{[], ◌∷◌}
use Prim.Native.Nat.{◌<◌, ◌+◌}
use lib.ListN.{length, drop, length-map}
use Rattle.records.proofs.Writing.{write-start, write-room, write-on, write-end, wrote_one, write_kept}
use Rattle.clockimage.specs.Image.{dot_record, dot_records}
use Rattle.runs.specs.Run.{run_dots}
use Rattle.marks.specs.Marks.{picked}
use Rattle.marks.proofs.Dots.{length_run, marked, unmarked}
use Rattle.marks.proofs.Picks.{picked-end}
use borrow.Author.Rules.{rules}
use native.Mathlib.Omega.{arith}
use Rattle.marks.proofs.write_picked.Goals.{Then-marks-i, then-marks-i, else-marks-i}
use Rattle.marks.proofs.write_picked.Goals as goal

pub loop-i-init : goal.loop-i-init
loop-i-init c =
    let a = c.args in (
      search rules,
      write-start _ _ _
          (rw (length-map (picked a.marks (run_dots a.run.now)) (dot_record a.kind a.index a.key)) c.requires.1),
    )

-- a mark that is set: the record of its dot comes next
set-mark : (c : Then-marks-i) → let s = c.before.before in
    let a = s.args in
    let l = run_dots a.run.now in
    let i = s.loop-i.i in
    dot_records a.kind a.index a.key (picked (drop i a.marks) (drop i l))
    ≡ dot_record a.kind a.index a.key c.dot_at-d.result ∷ dot_records a.kind a.index a.key
    (picked (drop (i + 1) a.marks) (drop (i + 1) l))
set-mark c =
    let s = c.before.before in
    let a = s.args in
    ap (dot_records a.kind a.index a.key)
    (marked a.run.now a.marks s.loop-i.i (omega (arith, s.loop-i.invariant.0)) (omega arith) c.dot_at-d.ensures c.if-marks-i.true)

pub write_record-next-requires : goal.write_record-next-requires
write_record-next-requires c =
    let t = c.before in
    omega (arith, (write-room _ _ _ (_ ∷ []) _ t.loop-i.invariant.1 (set-mark (goal.at.write_record-next-requires c).Then-marks-i)).0)

pub loop-i-preserved : goal.loop-i-preserved
loop-i-preserved c =
    let s = c.before.before.before in
    let a = s.args in
    let g = s.loop-i.invariant.1 in
    let h : s.loop-i.i < length a.marks = omega (arith, s.loop-i.invariant.0) in (
      s.loop-i.invariant.0,
      elim c.if-marks-i.branch [
        | then-marks-i w ↦
            let e = marked a.run.now a.marks s.loop-i.i h (omega arith) c.dot_at-d.ensures w.if-marks-i.true in
            rw (w.out-is, w.next-is)
            (write-on _ _ _ (_ ∷ []) g (ap (dot_records a.kind a.index a.key) e) (wrote_one _ _ _ _ _ w.write_record-next.ensures))
        | else-marks-i w ↦
            let e = unmarked a.run.now a.marks s.loop-i.i h (omega arith) w.if-marks-i.false in
            rw (← e, w.out-is, w.next-is) g
      ],
    )

pub shape_of-out : goal.shape_of-out
shape_of-out c = write_kept _ _ _ c.loop-i.invariant.1

pub returns : goal.returns
returns c =
    let s = c.before in
    let a = s.args in
    write-end _ _ _ s.loop-i.invariant.1
    (ap (dot_records a.kind a.index a.key)
    (picked-end a.marks (run_dots a.run.now) s.loop-i.i (omega (arith, length_run a.run.now))))
