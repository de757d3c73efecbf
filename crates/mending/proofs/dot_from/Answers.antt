-- `dot_from` meets its contract: the loop looks for the first dot of the index.
use mathlib.Core.Path.{◌≡◌, ap, sym, ◌∙◌}
use Prim.Native.Nat.{◌<◌, ◌/◌}
use native.Mathlib.Omega.{arith}
use lib.ListN.{length}
use Rattle.culling.specs.Looking.{is_wanted}
use Rattle.mending.specs.Tables.{dots_after}
use Rattle.mending.proofs.Dots.{dots-here, dots-other, dots-gone, told}
use Rattle.mending.proofs.dot_from.Goals.{else-is_left-via-then-is_left+else-is_wanted, else-is_left-via-else-is_left}
use Rattle.mending.proofs.dot_from.Goals as goal

pub returns-then-is_wanted : goal.returns-then-is_wanted
returns-then-is_wanted c =
    let a = c.args in
    let p = c.requires in
    let h : c.loop-i.i < length a.image.now / 16 = omega (arith, c.loop-i-test.true) in
    let u = told a.marks.now a.image.now p.1 a.index c.loop-i.i h c.read_record.ensures
    (c.is_wanted.ensures ∙ ap (λ w. is_wanted w c.read_record.result)
    c.of_index-w.ensures) in
    record {
      above = c.loop-i.invariant.0;
      inside = omega (arith, h);
      rest = c.loop-i.invariant.1;
      here = λ _. dots-here a.marks.now a.image.now p.1 a.index c.loop-i.i h (sym
          c.is_left.ensures ∙ c.if-is_left.true)
          (u ∙ c.if-is_wanted.true);
    }

pub returns : goal.returns
returns c =
    let a = c.args in
    let p = c.requires in
    let e : c.loop-i.i ≡ length a.image.now / 16 = omega (arith, c.loop-i.auto.i-end, c.loop-i-test.false) in
    record {
      above = p.0;
      inside = omega arith;
      rest = c.loop-i.invariant.1 ∙ ap (dots_after a.marks.now a.image.now a.index) e;
      here = λ q. absurd (omega arith);
    }

pub loop-i-preserved : goal.loop-i-preserved
loop-i-preserved c =
    let a = c.args in
    let p = c.requires in
    let h : c.loop-i.i < length a.image.now / 16 = omega (arith, c.loop-i-test.true) in (
      omega (arith, c.loop-i.invariant.0),
      c.loop-i.invariant.1
          ∙ elim c.else-is_left.branch [
            | else-is_left-via-then-is_left+else-is_wanted w ↦
                dots-other a.marks.now a.image.now p.1 a.index c.loop-i.i h (sym c.is_left.ensures ∙ w.if-is_left.true)
                (told a.marks.now a.image.now p.1 a.index c.loop-i.i h w.read_record.ensures
                (w.is_wanted.ensures ∙ ap (λ x. is_wanted x w.read_record.result) c.of_index-w.ensures) ∙ w.if-is_wanted.false)
            | else-is_left-via-else-is_left w ↦
                dots-gone a.marks.now a.image.now p.1 a.index c.loop-i.i h (sym c.is_left.ensures ∙ w.if-is_left.false)
          ],
    )
