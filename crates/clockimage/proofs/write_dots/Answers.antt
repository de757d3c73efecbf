-- `write_dots` meets its contract: a record for each dot, one behind the other.
use mathlib.Core.Path.{ap}
use mathlib.Core.List.{[], ◌∷◌, map}
use lib.ListN.{get_or, length-map}
use Rattle.listlaws.proofs.SliceRests.{map_on, drop-end}
use Rattle.clock.specs.Dots.{no_dot, dots_of}
use Rattle.records.proofs.Writing.{write-start, write-room, write-on, write-end, wrote_one}
use Rattle.clockimage.specs.Image.{dot_record}
use native.Mathlib.Omega.{arith}
use Rattle.clockimage.proofs.write_dots.Goals as goal

pub loop-d-init : goal.loop-d-init
loop-d-init c =
    let a = c.args in
    let e = c.as_slice-d-items.ensures in
    write-start _ _ _ (rw (e, length-map (dots_of a.clock) (dot_record a.kind a.index a.key)) c.requires)

pub write_record-next-requires : goal.write_record-next-requires
write_record-next-requires c =
    let a = c.args in
    let f = dot_record a.kind a.index a.key in
    let d = get_or c.as_slice-d-items.result.now c.loop-d.d-index no_dot in
    (write-room _ _ _ (f d ∷ []) _ c.loop-d.invariant (map_on _ _ no_dot c.loop-d-test.true f)).0

pub loop-d-preserved : goal.loop-d-preserved
loop-d-preserved c =
    let a = c.args in
    let f = dot_record a.kind a.index a.key in
    let r = f (get_or c.as_slice-d-items.result.now c.loop-d.d-index no_dot) in
    write-on _ _ _ (r ∷ []) c.loop-d.invariant (map_on _ _ no_dot c.loop-d-test.true f)
    (wrote_one r _ _ _ _ c.write_record-next.ensures)

pub returns : goal.returns
returns c =
    let a = c.args in
    rw (← c.as_slice-d-items.ensures)
    (write-end _ _ _ c.loop-d.invariant (ap (map (dot_record a.kind a.index a.key)) (drop-end _ c.loop-d.d-index (omega arith))))
