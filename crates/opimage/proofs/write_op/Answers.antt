-- `write_op` meets its contract.
use Rattle.records.proofs.RoundTrips.{length-bytes}
use Rattle.opimage.specs.OpImage.{op_records}
use native.Mathlib.Omega.{arith}
use Rattle.opimage.proofs.write_op.Goals as goal

pub write_update-requires : goal.write_update-requires
write_update-requires c =
    let a = c.before.before.before.before in
    let e = rw c.if-op.true at (length-bytes (op_records a.args.op)) in
    let h = rw c.if-op.true at a.requires in
    omega arith

pub returns-then-op : goal.returns-then-op
returns-then-op c = rw c.if-op.true c.write_update.ensures

pub write_removal-requires : goal.write_removal-requires
write_removal-requires c =
    let a = c.before.before.before.before in
    let e = rw c.if-op.false at (length-bytes (op_records a.args.op)) in
    let h = rw c.if-op.false at a.requires in
    omega arith

pub returns : goal.returns
returns c = rw c.if-op.false c.write_removal.ensures
