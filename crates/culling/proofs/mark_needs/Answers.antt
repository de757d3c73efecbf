-- `mark_needs` meets its contract: the loop takes step 4 in order, with a scan of what stays.
use mathlib.Core.Path.{refl, ap, sym, ◌∙◌}
use Prim.Native.Nat.{◌/◌, ◌≤◌, ◌<◌}
use native.Mathlib.Omega.{arith}
use lib.ListN.{length, length-set}
use Rattle.records.specs.Records.{records_of}
use Rattle.scan.proofs.Scanning.{under-steps}
use Rattle.culling.specs.Marks.{marked_of}
use Rattle.culling.proofs.Marked.{count-marked, marked-at, marked-set}
use Rattle.culling.proofs.Needed.{need-start, need-skip, need-keep, need-go, need-end}
use borrow.Author.Rules.{rules}
use Rattle.culling.proofs.mark_needs.Goals.{then-marks-i-eq0+then-met-more, then-marks-i-eq0+else-met-more, else-marks-i-eq0}
use Rattle.culling.proofs.mark_needs.Goals as goal

pub loop-i-init : goal.loop-i-init
loop-i-init c =
    let a = c.args in (
      search rules,
      need-start (records_of a.image.now) (marked_of a.marks.now a.image.now) c.requires.1.fates (c.new-scan.ensures 1 6),
    )

pub loop-i-preserved : goal.loop-i-preserved
loop-i-preserved c =
    let s = c.args.image.now in
    let p = c.requires in
    let marks = c.loop-i.marks in
    let i = c.loop-i.i in
    let g = c.loop-i.invariant in
    let l = records_of s in
    let xs = marked_of c.args.marks.now s in
    let h : i < length s / 16 = c.loop-i-test.true in
    let room : length s / 16 ≤ length marks = omega (arith, c.loop-i.auto.marks, p.0) in
    let k : i < length xs = omega (arith, h, count-marked c.args.marks.now s p.0) in
    let e = marked-at marks s room i h in
    elim c.if-marks-i-eq0.branch [
      | then-marks-i-eq0+then-met-more w ↦
          let r = ap (λ z. z.item) e ∙ sym w.read_record-r.ensures in
          let byte : w.read_record-r.result.index < 256 = search (rules, w.read_record-r.type_inv) in
          rw (w.marks-is, w.scan-is, w.under-is) (
            length-set c.loop-i.under w.read_record-r.result.index _ ∙ g.0,
            rw (← r)
                (need-keep l xs p.1.fates g.1 k (ap (λ z. z.mark) e ∙ w.if-marks-i-eq0.true)
                (rw r w.take-more.ensures) {met = w.needs_met-met.result} (rw r w.needs_met-met.ensures) w.if-met-more.true
                (rw r (omega (arith, g.0, byte))) _
                (rw r (under-steps _ _ w.under.ensures))),
          )
      | then-marks-i-eq0+else-met-more w ↦
          let r = ap (λ z. z.item) e ∙ sym w.read_record-r.ensures in
          rw (w.marks-is, w.scan-is, w.under-is) (
            g.0,
            rw (marked-set marks s room i h 4)
                (need-go l xs p.1.fates g.1 k (ap (λ z. z.mark) e ∙ w.if-marks-i-eq0.true)
                {more = w.take-more.result} (rw r w.take-more.ensures) {met = w.needs_met-met.result} (rw r w.needs_met-met.ensures) _
                w.if-met-more.false refl (sym (ap (λ z. z.item) e))),
          )
      | else-marks-i-eq0 w ↦
          rw (w.marks-is, w.scan-is, w.under-is) (
            g.0,
            need-skip l xs p.1.fates g.1 k (λ q. w.if-marks-i-eq0.false (sym (ap (λ z. z.mark) e) ∙ q)),
          )
    ]

pub returns : goal.returns
returns c =
    let p = c.requires in
    let s = c.args.image.now in
    record {
      fates = need-end (records_of s) (marked_of c.args.marks.now s) p.1.fates c.loop-i.invariant.1
          (omega (arith, c.loop-i-test.false, count-marked c.args.marks.now s p.0));
    }
