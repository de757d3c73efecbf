-- `count_kept` meets its contract: the loop counts what is left.
use mathlib.Core.Path.{refl, ap, ◌∙◌}
use mathlib.Core.Bool.{true}
use Prim.Native.Nat.{◌<◌, ◌/◌}
use native.Mathlib.Omega.{arith}
use lib.ListN.{length, length-take}
use lib.Seq.{take_all, get_or-take}
use Rattle.listlaws.specs.Sift.{sift, those}
use Rattle.culling.specs.Marks.{marked_of, is_left, left_items}
use Rattle.culling.proofs.Marked.{count-marked}
use Rattle.mending.proofs.Fourths.{count-skip, count-more}
use Rattle.salvage.proofs.Kept.{count_kept}
use Rattle.salvage.proofs.count_kept.Goals.{then-is_left, else-is_left}
use Rattle.salvage.proofs.count_kept.Goals as goal

pub loop-mark-init : goal.loop-mark-init
unfolding sift
loop-mark-init c = (omega arith, refl)

pub loop-mark-preserved : goal.loop-mark-preserved
loop-mark-preserved c =
    let s = c.args.image.now in
    let marks = c.args.marks.now in
    let i = c.loop-mark.mark-index in
    let g = c.loop-mark.invariant in
    let h : i < length s / 16 = omega (arith, c.loop-mark-test.true, length-take (length s / 16) marks) in
    let e = c.is_left.ensures ∙ ap (is_left 8) (get_or-take (length s / 16) marks i 0 h) in
    elim c.if-is_left.branch [
      | then-is_left w ↦
          rw w.count-is (omega (arith, g.0), count-more 8 (λ r. true) marks s c.requires i h g.1 e w.if-is_left.true refl refl)
      | else-is_left w ↦
          rw w.count-is (omega (arith, g.0), count-skip 8 (λ r. true) marks s c.requires i h g.1 e w.if-is_left.false)
    ]

pub returns : goal.returns
returns c =
    let s = c.args.image.now in
    let xs = marked_of c.args.marks.now s in
    let t = length-take (length s / 16) c.args.marks.now in (
      c.loop-mark.invariant.1
          ∙ ap (λ l. length (those (λ r. true) (left_items 8 l)))
          (take_all c.loop-mark.mark-index xs
          (omega (arith, c.loop-mark-test.false, t, c.requires, count-marked c.args.marks.now s c.requires)))
          ∙ count_kept xs,
      omega (arith, c.loop-mark.auto.mark-index-end, t, c.loop-mark.invariant.0),
    )
