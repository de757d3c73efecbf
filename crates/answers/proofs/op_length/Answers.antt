-- `op_length` meets its contract: the head, the put value or the keys, and the dots of the clock.
use native.Mathlib.Omega.{arith}
use lib.ListN.{length-append, length-map}
use Rattle.records.proofs.RoundTrips.{length-bytes}
use Rattle.opimage.specs.OpImage.{update_records, removal_records}
use Rattle.answers.proofs.op_length.Goals as goal

pub returns-then-op : goal.returns-then-op
returns-then-op c =
    let u = c.args.op.update in
    (rw (c.if-op.true, length-bytes (update_records u)) (simp length-map (omega arith)), omega arith)

pub returns : goal.returns
returns c =
    let r = c.args.op.removal in (
      rw (c.if-op.false, length-bytes (removal_records r)) (simp (length-append, length-map) (omega arith)),
      omega arith,
    )
