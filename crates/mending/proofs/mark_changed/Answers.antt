-- `mark_changed` meets its contract: the loop gives each record that stays its index.
use mathlib.Core.Path.{refl, ap, sym, ◌∙◌}
use mathlib.Core.List.Memᴰ
use Prim.Native.Nat.{◌/◌, ◌≤◌, ◌<◌}
use native.Mathlib.Omega.{arith}
use lib.Dec.{ltb}
use lib.ListN.{length, get_or}
use borrow.Author.Tests.{ltb-true}
use Rattle.records.specs.Records.{records_of}
use Rattle.scan.specs.Each.{every}
use Rattle.culling.specs.Marks.{marked_of}
use Rattle.culling.proofs.Marked.{no_marked, count-marked, marked-at, marked-set}
use Rattle.mending.proofs.Fourths.{supplied, left-all, united-early}
use Rattle.mending.proofs.Leading.{table-set, table-skip}
use Rattle.mending.proofs.Changing.{mark-small, change-gone, change-kept, change-on, change-end}
use Rattle.mending.proofs.mark_changed.Goals.{then-marks-i-eq0+then-index-r, then-marks-i-eq0+else-index-r, else-marks-i-eq0}
use Rattle.mending.proofs.mark_changed.Goals as goal

pub new_index-index-requires : goal.new_index-index-requires
new_index-index-requires c =
    let a = c.args in
    let p = c.requires in
    let h : c.loop-i.i < length a.image.now / 16 = omega (arith, c.loop-i-test.true) in
    let room : length a.image.now / 16 ≤ length c.loop-i.marks = omega (arith, c.loop-i.auto.marks, p.0) in
    let e = marked-at c.loop-i.marks a.image.now room c.loop-i.i h in
    let f = c.loop-i.invariant.0.fourth in (
      room,
      p.1,
      rw f (supplied (records_of a.image.now)),
      rw f p.4,
      Memᴰ.cast (c.read_record-r.ensures ∙ sym (ap (λ z. z.item) e))
          (left-all 5 (marked_of c.loop-i.marks a.image.now) c.loop-i.i (omega (arith, count-marked c.loop-i.marks a.image.now room))
          (rw (ap (λ z. z.mark) e ∙ c.if-marks-i-eq0.true) refl)),
    )

pub returns : goal.returns
returns c =
    let a = c.args in
    let p = c.requires in
    record {
      fates = change-end (records_of a.image.now) (marked_of a.marks.now a.image.now) p.2.fates c.loop-i.invariant.0
          (omega (arith, c.loop-i-test.false, count-marked a.marks.now a.image.now p.0));
      small = λ j q. c.loop-i.invariant.1 j (omega (arith, c.loop-i-test.false));
    }

pub loop-i-preserved : goal.loop-i-preserved
loop-i-preserved c =
    let s = c.args.image.now in
    let p = c.requires in
    let marks = c.loop-i.marks in
    let i = c.loop-i.i in
    let g = c.loop-i.invariant in
    let h : i < length s / 16 = c.loop-i-test.true in
    let room : length s / 16 ≤ length marks = omega (arith, c.loop-i.auto.marks, p.0) in
    let k : i < length (marked_of c.args.marks.now s) = omega (arith, h, count-marked c.args.marks.now s p.0) in
    let e = marked-at marks s room i h in
    elim c.if-marks-i-eq0.branch [
      | then-marks-i-eq0+then-index-r w ↦
          let r = ap (λ z. z.item) e ∙ sym w.read_record-r.ensures in
          rw w.marks-is (
            rw (marked-set marks s room i h _)
                (change-on g.0 k (ap (λ z. z.mark) e ∙ w.if-marks-i-eq0.true) {x = w.new_index-index.result} (rw r w.new_index-index.ensures.0)
                (λ q. w.if-index-r.true (q ∙ ap (λ x. x.index) r)) _ refl (sym (ap (λ z. z.item) e))),
            table-set (λ v x. x < 264) marks i g.1 _ (omega (arith, h, room)) (omega (arith, w.new_index-index.ensures.1)),
          )
      | then-marks-i-eq0+else-index-r w ↦
          let r = ap (λ z. z.item) e ∙ sym w.read_record-r.ensures in
          rw w.marks-is (
            change-kept g.0 k (ap (λ z. z.mark) e ∙ w.if-marks-i-eq0.true) {x = w.new_index-index.result} (rw r w.new_index-index.ensures.0)
                (w.if-index-r.false ∙ sym (ap (λ x. x.index) r)),
            table-skip (λ v x. x < 264) marks i g.1 (omega (arith, w.if-marks-i-eq0.true)),
          )
      | else-marks-i-eq0 w ↦
          let early = ap (every (λ f. ltb f.step 8)) p.2.fates ∙ united-early (records_of s) in
          rw w.marks-is (
            change-gone g.0 k early (λ q. w.if-marks-i-eq0.false (sym (ap (λ z. z.mark) e) ∙ q)),
            table-skip (λ v x. x < 264) marks i g.1
                (omega (arith, ap (λ z. z.mark) e, ltb-true (get_or (marked_of marks s) i no_marked).mark 8 (mark-small g.0 k early))),
          )
    ]
