-- `write_values` meets its contract: one value after the other.
use lib.ListN.{get_or}
use Rattle.records.proofs.Writing.{write-start, write-room, write-on, write-end}
use Rattle.mapimage.specs.MapImage.{value_records}
use Rattle.register.proofs.Packs.{none_read}
use Rattle.mapimage.proofs.Flats.{flat-step, flat-end}
use native.Mathlib.Omega.{arith}
use Rattle.mapimage.proofs.write_values.Goals as goal

pub loop-i-init : goal.loop-i-init
loop-i-init c = write-start _ _ _ (rw c.as_slice-v-items.ensures c.requires)

pub write_value-next-requires : goal.write_value-next-requires
write_value-next-requires c =
    let f = value_records c.args.kind c.args.key in
    let x = get_or c.as_slice-v-items.result.now c.loop-i.i none_read in
    (write-room _ _ _ (f c.loop-i.i x) _ c.loop-i.invariant (flat-step f _ _ none_read c.loop-i-test.true)).0

pub loop-i-preserved : goal.loop-i-preserved
loop-i-preserved c =
    let f = value_records c.args.kind c.args.key in
    let x = get_or c.as_slice-v-items.result.now c.loop-i.i none_read in
    write-on _ _ _ (f c.loop-i.i x) c.loop-i.invariant (flat-step f _ _ none_read c.loop-i-test.true)
    c.write_value-next.ensures

pub returns : goal.returns
returns c =
    let f = value_records c.args.kind c.args.key in
    rw (← c.as_slice-v-items.ensures) (write-end _ _ _ c.loop-i.invariant (flat-end f _ c.loop-i.i (omega arith)))
