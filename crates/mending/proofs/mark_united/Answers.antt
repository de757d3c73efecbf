-- `mark_united` meets its contract: the loop takes step 5 in order.
use mathlib.Core.Path.{refl, ap, sym, ◌∙◌}
use mathlib.Core.List.Memᴰ
use Prim.Native.Nat.{◌/◌, ◌≤◌, ◌<◌}
use native.Mathlib.Omega.{arith}
use borrow.Author.Tests.{not-true, not-false}
use lib.ListN.{length}
use Rattle.records.specs.Records.{records_of}
use Rattle.culling.specs.Marks.{marked_of}
use Rattle.culling.proofs.Marked.{count-marked, marked-at, marked-set}
use Rattle.mending.proofs.Fourths.{unite-start, unite-skip, unite-keep, unite-go, unite-end, supplied, left-all}
use mathlib.Core.Bool.{not}
use Rattle.mending.proofs.mark_united.Goals.{then-marks-i-eq0+then-not-is_united, else-marks-i-eq0}
use Rattle.mending.proofs.mark_united.Goals.{else-marks-i-eq0-via-then-marks-i-eq0+else-not-is_united, else-marks-i-eq0-via-else-marks-i-eq0}
use Rattle.mending.proofs.mark_united.Goals as goal

pub loop-i-init : goal.loop-i-init
loop-i-init c =
    let a = c.args in unite-start (records_of a.image.now) (marked_of a.marks.now a.image.now)
    c.requires.1.fates

pub is_united-requires : goal.is_united-requires
is_united-requires c =
    let a = c.args in
    let p = c.requires in
    let h : c.loop-i.i < length a.image.now / 16 = omega (arith, c.loop-i-test.true) in
    let room : length a.image.now / 16 ≤ length c.loop-i.marks = omega (arith, c.loop-i.auto.marks, p.0) in
    let e = marked-at c.loop-i.marks a.image.now room c.loop-i.i h in
    let f = c.loop-i.invariant.fourth in (
      omega (arith, h),
      room,
      rw f (supplied (records_of a.image.now)),
      rw f p.2,
      Memᴰ.cast (c.read_record.ensures ∙ sym (ap (λ z. z.item) e))
          (left-all 5 (marked_of c.loop-i.marks a.image.now) c.loop-i.i (omega (arith, count-marked c.loop-i.marks a.image.now room))
          (rw (ap (λ z. z.mark) e ∙ c.if-marks-i-eq0.true) refl)),
    )

pub returns : goal.returns
returns c =
    let a = c.args in
    let p = c.requires in (
      record {
        fates = unite-end (records_of a.image.now) (marked_of a.marks.now a.image.now) p.1.fates c.loop-i.invariant
            (omega (arith, c.loop-i-test.false, count-marked a.marks.now a.image.now p.0));
      },
      c.loop-i.invariant.fourth,
    )

pub loop-i-preserved : goal.loop-i-preserved
loop-i-preserved c =
    let s = c.args.image.now in
    let p = c.requires in
    let marks = c.loop-i.marks in
    let i = c.loop-i.i in
    let g = c.loop-i.invariant in
    let h : i < length s / 16 = c.loop-i-test.true in
    let room : length s / 16 ≤ length marks = omega (arith, c.loop-i.auto.marks, p.0) in
    let k : i < length (marked_of c.args.marks.now s) = omega (arith, h, count-marked c.args.marks.now s p.0) in
    let e = marked-at marks s room i h in
    elim c.if-marks-i-eq0.branch [
      | then-marks-i-eq0+then-not-is_united w ↦
          let r = ap (λ z. z.item) e ∙ sym w.read_record.ensures in
          rw (w.marks-is, marked-set marks s room i h 5)
          (unite-go g k {b = w.is_united.result} (rw r w.is_united.ensures) _ (ap (λ z. z.mark) e ∙ w.if-marks-i-eq0.true)
          (not-true _ (ap not w.if-not-is_united.true)) refl (sym (ap (λ z. z.item) e)))
      | else-marks-i-eq0 w ↦
          rw w.marks-is
          (elim w.else-marks-i-eq0.branch [
            | else-marks-i-eq0-via-then-marks-i-eq0+else-not-is_united v ↦
                let r = ap (λ z. z.item) e ∙ sym v.read_record.ensures in
                unite-keep g k {b = v.is_united.result} (rw r v.is_united.ensures) (not-false _ (ap not v.if-not-is_united.false))
            | else-marks-i-eq0-via-else-marks-i-eq0 v ↦
                unite-skip g k (λ q. v.if-marks-i-eq0.false (sym (ap (λ z. z.mark) e) ∙ q))
          ])
    ]
