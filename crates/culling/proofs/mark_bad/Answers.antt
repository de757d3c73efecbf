-- `mark_bad` meets its contract: the loop judges a record a turn.
use mathlib.Core.Path.{ap, sym, ◌∙◌}
use Prim.Native.Nat.{◌/◌, ◌≤◌, ◌<◌}
use native.Mathlib.Omega.{arith}
use lib.ListN.{length}
use Rattle.records.specs.Kinds.{record_ok}
use Rattle.records.specs.Records.{records_of}
use Rattle.culling.specs.Marks.{marked_of}
use Rattle.culling.proofs.Marked.{record-at, count-records, count-marked, marked-set}
use Rattle.culling.proofs.Ordered.{judging-start, judging-good, judging-bad, judging-end}
use Rattle.culling.proofs.mark_bad.Goals.{then-record_ok, else-record_ok}
use Rattle.culling.proofs.mark_bad.Goals as goal

pub loop-i-init : goal.loop-i-init
loop-i-init c = judging-start

pub loop-i-preserved : goal.loop-i-preserved
loop-i-preserved c =
    let s = c.args.image.now in
    let marks = c.loop-i.marks in
    let i = c.loop-i.i in
    let h : i < length s / 16 = c.loop-i-test.true in
    let room : length s / 16 ≤ length marks = omega (arith, c.loop-i.auto.marks, c.requires) in
    let e = record-at s i h in
    let r = ap (record_ok 1 6) (e ∙ sym c.read_record-r.ensures) ∙ sym c.record_ok.ensures in
    let j : i < length (marked_of marks s) = omega (arith, count-marked marks s room) in
    let k : i < length (records_of s) = omega (arith, count-records s) in
    rw (marked-set marks s room i h c.if-record_ok.marks)
    (elim c.if-record_ok.branch [
      | then-record_ok w ↦ judging-good c.loop-i.invariant j k _ (sym e) (r ∙ w.if-record_ok.true) w.marks-is
      | else-record_ok w ↦ judging-bad c.loop-i.invariant j k _ (sym e) (r ∙ w.if-record_ok.false) w.marks-is
    ])

pub returns : goal.returns
returns c =
    let s = c.args.image.now in
    let room : length s / 16 ≤ length c.loop-i.marks = omega (arith, c.loop-i.auto.marks, c.requires) in
    record {
      fates = judging-end c.loop-i.invariant (omega (arith, c.loop-i-test.false, count-marked c.loop-i.marks s room))
          (omega (arith, c.loop-i-test.false, count-records s));
    }
