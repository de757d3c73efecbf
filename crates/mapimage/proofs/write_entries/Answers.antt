-- `write_entries` meets its contract: one entry after the other.
use lib.ListN.{get_or}
use Rattle.records.proofs.Writing.{write-start, write-room, write-on, write-end}
use Rattle.mapimage.specs.MapImage.{entry_records}
use Rattle.entries.proofs.Packs.{none_read}
use Rattle.mapimage.proofs.Flats.{flat-step, flat-end}
use native.Mathlib.Omega.{arith}
use Rattle.mapimage.proofs.write_entries.Goals as goal

pub loop-e-init : goal.loop-e-init
loop-e-init c = write-start _ _ _ (rw c.as_slice-e-items.ensures c.requires)

pub write_entry-next-requires : goal.write_entry-next-requires
write_entry-next-requires c =
    let f = entry_records c.args.kind in
    let x = get_or c.as_slice-e-items.result.now c.loop-e.e-index none_read in
    (write-room _ _ _ (f c.loop-e.e-index x) _ c.loop-e.invariant (flat-step f _ _ none_read c.loop-e-test.true)).0

pub loop-e-preserved : goal.loop-e-preserved
loop-e-preserved c =
    let f = entry_records c.args.kind in
    let x = get_or c.as_slice-e-items.result.now c.loop-e.e-index none_read in
    write-on _ _ _ (f c.loop-e.e-index x) c.loop-e.invariant (flat-step f _ _ none_read c.loop-e-test.true)
    c.write_entry-next.ensures

pub returns : goal.returns
returns c =
    let f = entry_records c.args.kind in
    rw (← c.as_slice-e-items.ensures) (write-end _ _ _ c.loop-e.invariant (flat-end f _ c.loop-e.e-index (omega arith)))
