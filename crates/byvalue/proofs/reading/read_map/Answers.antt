-- `read_map` meets its contract: the reader takes the whole image, and what it then holds is taken out of it.
use mathlib.Core.Path.{ap, ◌∙◌}
use Prim.Native.Nat.{ℕ}
use lib.ListN.{length-replicate}
use Rattle.memory.specs.Memory.{reader_room}
use Rattle.mailbox.specs.Held.{Came}
use Rattle.mailbox.proofs.Begins.{zeros-small}
use Rattle.refusals.proofs.Handed.{handed, number-some}
use Rattle.maprecords.specs.Related.{map_reading}
use Rattle.byvalue.proofs.Taken.{came-whole, refused-read, map_read}
use Rattle.byvalue.proofs.reading.read_map.Goals.{After-take}
use Rattle.byvalue.proofs.reading.read_map.Goals as goal

came : (c : After-take) → let a = c.args in Came a.bytes.now c.take.new.mem
came c =
    let m = c.before.before.before in
    came-whole _ (λ i. (m.shared_slice_known-1.given i).fits) (length-replicate {A = ℕ} reader_room 0) (zeros-small reader_room)
    c.begin.ensures.1 c.take.ensures.1

pub returns-in_err-verdict : goal.returns-in_err-verdict
returns-in_err-verdict c =
    ap map_reading (handed c.from_residual.result _ c.from_residual.ensures.1)
    ∙ refused-read (came (goal.at.returns-in_err-verdict c).After-take) c.in_err-verdict.ensures (number-some _)

pub returns : goal.returns
returns c = map_read (came (goal.at.returns c).After-take) c.in_ok-verdict.ensures c.map_of.ensures
