-- `mark_order` meets its contract: the loop takes step 3 in order, with the last record kept.
use mathlib.Core.Path.{◌≡◌, refl, ap, sym, ◌∙◌}
use mathlib.Core.Bool.{not, ◌||◌}
use Prim.Native.Nat.{◌/◌, ◌≤◌, ◌<◌}
use native.Mathlib.Omega.{arith}
use lib.ListN.{length}
use Rattle.std.specs.Option.{is_some, unwrap_or}
use Rattle.records.specs.Kinds.{before}
use Rattle.records.specs.Records.{records_of}
use Rattle.opimage.specs.OpImage.{no_record}
use Rattle.culling.specs.Marks.{marked_of}
use Rattle.culling.proofs.Marked.{count-marked, marked-at, marked-set}
use Rattle.culling.proofs.Ordered.{order-start, order-skip, order-keep, order-go, order-end}
use Rattle.culling.proofs.mark_order.Goals.{then-marks-i-eq0+then-above, in-Some, in-None, then-marks-i-eq0+else-above, else-marks-i-eq0}
use Rattle.culling.proofs.mark_order.Goals as goal

pub loop-i-init : goal.loop-i-init
loop-i-init c = order-start _

pub loop-i-preserved : goal.loop-i-preserved
loop-i-preserved c =
    let s = c.args.image.now in
    let p = c.requires in
    let marks = c.loop-i.marks in
    let i = c.loop-i.i in
    let last = c.loop-i.last in
    let h : i < length s / 16 = c.loop-i-test.true in
    let room : length s / 16 ≤ length marks = omega (arith, c.loop-i.auto.marks, p.0) in
    let k : i < length (marked_of c.args.marks.now s) = omega (arith, h, count-marked c.args.marks.now s p.0) in
    let e = marked-at marks s room i h in
    elim c.if-marks-i-eq0.branch [
      | then-marks-i-eq0+then-above w ↦
          let r = ap (λ z. z.item) e ∙ sym w.read_record-r.ensures in
          let above : (not (is_some last) || before (unwrap_or last no_record) w.read_record-r.result) ≡ w.match-last.above =
          elim w.match-last.branch [
            | in-Some v ↦ rw v.in-Some.is (sym (v.above-is ∙ v.before-above.ensures))
            | in-None v ↦ rw v.in-None.is (sym v.above-is)
          ] in
          rw (w.marks-is, w.last-is, ← r)
          (order-keep (records_of s) p.1.fates c.loop-i.invariant k (ap (λ z. z.mark) e ∙ w.if-marks-i-eq0.true)
          (rw r (above ∙ w.if-above.true)))
      | then-marks-i-eq0+else-above w ↦
          let r = ap (λ z. z.item) e ∙ sym w.read_record-r.ensures in
          let above : (not (is_some last) || before (unwrap_or last no_record) w.read_record-r.result) ≡ w.match-last.above =
          elim w.match-last.branch [
            | in-Some v ↦ rw v.in-Some.is (sym (v.above-is ∙ v.before-above.ensures))
            | in-None v ↦ rw v.in-None.is (sym v.above-is)
          ] in
          let same : w.match-last.last ≡ last =
          elim w.match-last.branch [
            | in-Some v ↦ v.last-is ∙ sym v.in-Some.is
            | in-None v ↦ v.last-is
          ] in
          rw (w.marks-is, w.last-is, same, marked-set marks s room i h 3)
          (order-go (records_of s) p.1.fates c.loop-i.invariant k (ap (λ z. z.mark) e ∙ w.if-marks-i-eq0.true) _
          (rw r (above ∙ w.if-above.false)) refl (sym (ap (λ z. z.item) e)))
      | else-marks-i-eq0 w ↦
          rw (w.marks-is, w.last-is)
          (order-skip c.loop-i.invariant k (λ q. w.if-marks-i-eq0.false (sym (ap (λ z. z.mark) e) ∙ q)))
    ]

pub returns : goal.returns
returns c =
    let p = c.requires in
    let s = c.args.image.now in
    record {
      fates = order-end (records_of s) p.1.fates c.loop-i.invariant
          (omega (arith, c.loop-i-test.false, count-marked c.args.marks.now s p.0));
    }
