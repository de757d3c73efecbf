-- `write_kept` meets its contract: the least record above the last, again and again.
use mathlib.Core.Path.{◌≡◌}
use mathlib.Core.List.{[], ◌∷◌}
use Prim.Native.Nat.{◌-◌}
use native.Mathlib.Omega.{arith}
use Rattle.records.proofs.Writing.{write-start, write-room, write-on, write-end, wrote_one}
use Rattle.opimage.specs.OpImage.{no_record}
use Rattle.culling.specs.Marks.{marked_of}
use Rattle.salvage.specs.Selecting.{kept_of, select_from}
use Rattle.salvage.proofs.Selected.{length-select, select-step, select-end}
use Rattle.salvage.proofs.write_kept.Goals as goal

pub loop-init : goal.loop-init
loop-init c =
    let a = c.args in
    let k = kept_of (marked_of a.marks.now a.image.now) in
    let e : a.n - 0 ≡ a.n = omega arith in
    rw e (write-start (select_from a.n no_record k) 0 a.out.now (omega (arith, c.requires.2, length-select a.n no_record k)))

pub write_record-next-requires : goal.write_record-next-requires
write_record-next-requires c =
    let a = c.args in
    let k = kept_of (marked_of a.marks.now a.image.now) in
    let e = select-step a.n c.loop.counter c.loop.last c.next_record-last.result k c.loop-test.true
    c.next_record-last.ensures in
    omega (arith, (write-room _ _ _ (c.next_record-last.result ∷ []) _ c.loop.invariant e).0)

pub returns : goal.returns
returns c =
    let a = c.args in
    write-end _ _ _ c.loop.invariant
    (select-end a.n c.loop.counter c.loop.last (kept_of (marked_of a.marks.now a.image.now)) (omega (arith, c.loop-test.false)))

pub loop-preserved : goal.loop-preserved
loop-preserved c =
    let a = c.args in
    let k = kept_of (marked_of a.marks.now a.image.now) in
    let e = select-step a.n c.loop.counter c.loop.last c.next_record-last.result k c.loop-test.true c.next_record-last.ensures in
    write-on _ _ _ (c.next_record-last.result ∷ []) c.loop.invariant e (wrote_one _ _ _ _ _ c.write_record-next.ensures)
