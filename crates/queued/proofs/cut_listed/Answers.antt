-- `cut_listed` meets its contract: a removal a turn.
use mathlib.Core.Path.{ap, sym, ◌∙◌}
use mathlib.Core.List.{List}
use Prim.Native.Nat.{ℕ, ◌<◌}
use lib.ListN.{length}
use native.Mathlib.Omega.{arith}
use Rattle.listlaws.proofs.SliceFolding.{folding-start}
use Rattle.clock.specs.Dots.{clock_of}
use Rattle.clock.proofs.Packs.{cut_left}
use Rattle.runs.specs.Run.{run_dots}
use Rattle.queued.proofs.Taking.{lying-clock, lying-short}
use Rattle.queued.proofs.Cutting.{cut_on, cut-not, cut-end}
use Rattle.queued.proofs.cut_listed.Goals.{then-under-k, else-under-k}
use Rattle.queued.proofs.cut_listed.Goals as goal

pub loop-k-init : goal.loop-k-init
loop-k-init c = λ w key d h m f. folding-start f

pub run_at-requires : goal.run_at-requires
run_at-requires c =
    let p = c.requires in
    let k = p.1.count in
    let f = p.1.few in
    (p.0, p.1, omega arith)

pub clock_of-by-requires : goal.clock_of-by-requires
clock_of-by-requires c =
    let p = c.requires in
    let k = p.1.count in
    let f = p.1.few in
    rw c.run_at.ensures (lying-short (p.1.each c.loop-k.k (omega arith)))

pub loop-k-preserved : goal.loop-k-preserved
loop-k-preserved c = λ w key d h m f.
    let n = h.count in
    let l = h.few in
    let i : c.loop-k.k < length w = omega arith in
    let g = c.loop-k.invariant w key d h m f in
    let u = sym (m.each c.loop-k.k (omega arith)) in
    elim c.if-under-k.branch [
      | then-under-k z ↦
          rw z.out-is (cut_on w key g i
          (z.clock_of-by.ensures ∙ ap (λ (r : List ℕ). clock_of (run_dots r)) z.run_at.ensures ∙ lying-clock (h.each _ i))
          (u ∙ z.if-under-k.true) (cut_left _ _ z.cut.ensures))
      | else-under-k z ↦ rw z.out-is (cut-not w key g i (u ∙ z.if-under-k.false))
    ]

pub returns : goal.returns
returns c = λ w key d h m f.
    let k = h.count in
    let l = h.few in
    cut-end w key (c.loop-k.invariant w key d h m f) (omega arith)
