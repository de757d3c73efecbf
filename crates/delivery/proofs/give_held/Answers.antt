-- `give_held` meets its contract: each way out is a law of `Ends`.
use Rattle.refusals.proofs.Handed.{number-some}
use Rattle.delivery.proofs.Ends.{end-closed, end_refused, end_short, end-writes}
use native.Mathlib.Omega.{arith}
use Rattle.delivery.proofs.give_held.Goals as goal

pub returns-then-mem-ne1 : goal.returns-then-mem-ne1
returns-then-mem-ne1 c = end-closed _ _ c.if-mem-ne1.true

pub returns-in-Err : goal.returns-in-Err
returns-in-Err c = rw c.put8.ensures (end_refused _ _ c.if-mem-ne1.false c.in-Err.ensures (number-some c.in-Err.refusal))

pub returns-then-out-image_length : goal.returns-then-out-image_length
returns-then-out-image_length c = end_short _ _ c.if-mem-ne1.false c.in_default.ensures (omega arith)

pub returns : goal.returns
returns c = rw c.put8-2.ensures (end-writes _ _ c.if-mem-ne1.false c.in_default.ensures (omega arith) c.write_image-n.ensures)
