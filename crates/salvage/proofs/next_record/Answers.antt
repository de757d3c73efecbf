-- `next_record` meets its contract: the loop keeps the least record above the last.
use mathlib.Core.Path.{refl, ap, ◌∙◌}
use Prim.Native.Nat.{◌<◌, ◌/◌}
use native.Mathlib.Omega.{arith}
use lib.ListN.{length, length-take}
use lib.Seq.{take_all}
use Rattle.listlaws.specs.Fold.{fold}
use Rattle.listlaws.proofs.Folding.{folding-start, folding-on, folding-end}
use Rattle.culling.specs.Marks.{marked_of}
use Rattle.culling.proofs.Marked.{no_marked, count-marked}
use Rattle.salvage.specs.Selecting.{top_record}
use Rattle.salvage.proofs.Kept.{looked_at, fold-kept, look-on, look_skip}
use Rattle.salvage.proofs.next_record.Goals.{then-is_left, else-is_left}
use Rattle.salvage.proofs.next_record.Goals as goal

pub loop-i-init : goal.loop-i-init
loop-i-init c = folding-start refl

pub renewed-requires : goal.renewed-requires
renewed-requires c = c.requires.1
    c.loop-i.i (omega (arith, c.loop-i-test.true))

pub returns : goal.returns
returns c =
    let a = c.args in
    let p = c.requires in
    let xs = marked_of a.marks.now a.image.now in
    let n = count-marked a.marks.now a.image.now p.0 in
    folding-end c.loop-i.invariant (omega (arith, c.loop-i-test.false, length-take (length a.image.now / 16) xs))
    ∙ ap (fold (looked_at a.last) top_record) (take_all (length a.image.now / 16) xs (omega (arith, n)))
    ∙ fold-kept a.last top_record xs

pub loop-i-preserved : goal.loop-i-preserved
loop-i-preserved c =
    let s = c.args.image.now in
    let marks = c.args.marks.now in
    let p = c.requires in
    let i = c.loop-i.i in
    let h : i < length s / 16 = c.loop-i-test.true in
    let xs = marked_of marks s in
    folding-on no_marked c.loop-i.invariant (omega (arith, h, length-take (length s / 16) xs, count-marked marks s p.0))
    (λ b e. elim c.if-is_left.branch [
      | then-is_left w ↦
          rw w.best-is
          (look-on marks s p.0 i h c.args.last c.is_left.ensures w.if-is_left.true w.read_record.ensures w.renewed.ensures
          w.lesser-best.ensures b e)
      | else-is_left w ↦ rw w.best-is (look_skip marks s p.0 i h c.args.last c.is_left.ensures w.if-is_left.false b e)
    ])
