-- `cut_listed_marks` meets its contract: a removal a turn.
use mathlib.Core.Path.{refl, sym, ◌∙◌}
use Prim.Native.Nat.{◌<◌}
use lib.ListN.{length}
use native.Mathlib.Omega.{arith}
use Rattle.listlaws.proofs.SliceFolding.{folding-start}
use Rattle.queued.proofs.Taking.{lying-dots, lying-lawful}
use Rattle.queued.proofs.Cutting.{marks-on, marks-not, marks-end}
use Rattle.queued.proofs.cut_listed_marks.Goals.{then-under-k, else-under-k}
use Rattle.queued.proofs.cut_listed_marks.Goals as goal

pub loop-k-init : goal.loop-k-init
loop-k-init c = λ w key h m. folding-start refl

pub run_at-requires : goal.run_at-requires
run_at-requires c =
    let p = c.requires in
    let k = p.0.1.count in
    let f = p.0.1.few in
    (p.0.0, p.0.1, omega arith)

pub cut_marks_by-left-requires : goal.cut_marks_by-left-requires
cut_marks_by-left-requires c =
    let p = c.requires in
    let k = p.0.1.count in
    let f = p.0.1.few in
    (p.1.0, (p.1.1, rw c.run_at.ensures (lying-lawful (p.0.1.each c.loop-k.k (omega arith)))))

pub loop-k-preserved : goal.loop-k-preserved
loop-k-preserved c = λ w key h m.
    let n = h.count in
    let l = h.few in
    let i : c.loop-k.k < length w = omega arith in
    let g = c.loop-k.invariant w key h m in
    let u = sym (m.each c.loop-k.k (omega arith)) in
    elim c.if-under-k.branch [
      | then-under-k z ↦
          rw z.out-is (marks-on w key g i (u ∙ z.if-under-k.true) (rw (z.run_at.ensures, lying-dots (h.each _ i)) at z.cut_marks_by-left.ensures))
      | else-under-k z ↦ rw z.out-is (marks-not w key g i (u ∙ z.if-under-k.false))
    ]

pub returns : goal.returns
returns c = λ w key h m.
    let k = h.count in
    let l = h.few in
    marks-end w key (c.loop-k.invariant w key h m) (omega arith)
