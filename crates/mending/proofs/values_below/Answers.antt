-- `values_below` meets its contract: the loop counts the values.
use mathlib.Core.Path.{refl, ap, ◌∙◌}
use mathlib.Core.Bool.{Bool, ◌&&◌}
use Prim.Native.Nat.{◌<◌, ◌/◌}
use native.Mathlib.Omega.{arith}
use lib.Dec.{ltb}
use lib.ListN.{length}
use lib.Seq.{take_all}
use Rattle.listlaws.specs.Sift.{sift, those}
use Rattle.maprecords.specs.Reading.{under_key}
use Rattle.records.specs.declared.Record.{Record}
use Rattle.culling.specs.Marks.{marked_of, left_items}
use Rattle.culling.proofs.Marked.{count-marked}
use Rattle.mending.proofs.Fourths.{count-skip, count-more, count-other}
use Rattle.mending.proofs.values_below.Goals.{then-is_left+then-s-key, then-is_left+else-s-key, else-is_left}
use Rattle.mending.proofs.values_below.Goals as goal

pub loop-i-init : goal.loop-i-init
unfolding sift
loop-i-init c = (omega arith, refl)

pub returns : goal.returns
returns c =
    let a = c.args in
    let p = c.requires in (
      c.loop-i.invariant.1
          ∙ ap (λ l. length (those (λ x. under_key 3 a.key x && ltb x.index a.index) (left_items 5 l)))
          (take_all c.loop-i.i (marked_of a.marks.now a.image.now)
          (omega (arith, c.loop-i-test.false, count-marked a.marks.now a.image.now p.0))),
      omega (arith, c.loop-i.auto.i-end, c.loop-i.invariant.0),
    )

pub loop-i-preserved : goal.loop-i-preserved
loop-i-preserved c =
    let a = c.args in
    let g = c.loop-i.invariant in
    let h : c.loop-i.i < length a.image.now / 16 = omega (arith, c.loop-i-test.true) in
    let t : Record → Bool = λ x. under_key 3 a.key x && ltb x.index a.index in
    elim c.if-is_left.branch [
      | then-is_left+then-s-key w ↦
          rw w.count-is (
            omega (arith, g.0),
            count-more 5 t a.marks.now a.image.now c.requires.0 c.loop-i.i h g.1 c.is_left.ensures w.if-is_left.true w.read_record-s.ensures
                w.if-s-key.true,
          )
      | then-is_left+else-s-key w ↦
          rw w.count-is (
            omega (arith, g.0),
            count-other 5 t a.marks.now a.image.now c.requires.0 c.loop-i.i h g.1 c.is_left.ensures w.if-is_left.true w.read_record-s.ensures
                w.if-s-key.false,
          )
      | else-is_left w ↦
          rw w.count-is (
            omega (arith, g.0),
            count-skip 5 t a.marks.now a.image.now c.requires.0 c.loop-i.i h g.1 c.is_left.ensures w.if-is_left.false,
          )
    ]
