-- `write_waiting` meets its contract: one clock after the other.
use lib.ListN.{get_or, length-map}
use Rattle.records.proofs.Writing.{write-start, write-room, write-on, write-end}
use Rattle.mapimage.specs.MapImage.{waiting_dots}
use Rattle.removals.specs.Model.{under_of}
use Rattle.removals.proofs.Packs.{no_removal_read}
use Rattle.clockimage.specs.Image.{dot_record}
use Rattle.mapimage.proofs.Flats.{flat-step, flat-end}
use native.Mathlib.Omega.{arith}
use Rattle.mapimage.proofs.write_waiting.Goals as goal

pub loop-i-init : goal.loop-i-init
loop-i-init c = write-start _ _ _ (rw c.as_slice-w-items.ensures c.requires)

pub write_dots-next-requires : goal.write_dots-next-requires
write_dots-next-requires c =
    let x = get_or c.as_slice-w-items.result.now c.loop-i.i no_removal_read in
    omega (
      arith,
      (write-room _ _ _ (waiting_dots c.loop-i.i x) _ c.loop-i.invariant (flat-step waiting_dots _ _ no_removal_read c.loop-i-test.true)).0,
      length-map (under_of x) (dot_record 5 c.loop-i.i 0),
    )

pub loop-i-preserved : goal.loop-i-preserved
loop-i-preserved c =
    let x = get_or c.as_slice-w-items.result.now c.loop-i.i no_removal_read in
    write-on _ _ _ (waiting_dots c.loop-i.i x) c.loop-i.invariant (flat-step waiting_dots _ _ no_removal_read c.loop-i-test.true)
    c.write_dots-next.ensures

pub returns : goal.returns
returns c =
    rw (← c.as_slice-w-items.ensures) (write-end _ _ _ c.loop-i.invariant (flat-end waiting_dots _ c.loop-i.i (omega arith)))
