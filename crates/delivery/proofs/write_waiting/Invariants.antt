-- `write_waiting` meets its contract: one clock after the other.
use lib.ListN.{drop}
use Rattle.records.proofs.Writing.{Writing}
use Rattle.mapimage.specs.MapImage.{flat_from, waiting_dots}
use Rattle.memory.specs.Memory.{waiting_at}
use Rattle.delivery.proofs.write_waiting.Given as goal

abbrev pub invariant-loop-k : goal.invariant-loop-k
invariant-loop-k l =
    Writing (flat_from waiting_dots 0 (waiting_at l.mem))
    (flat_from waiting_dots l.k (drop l.k (waiting_at l.mem))) l.at l.initial.out l.out l.next
