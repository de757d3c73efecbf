-- `write_waiting` meets its contract: one clock after the other.
use lib.ListN.{drop}
use Rattle.records.proofs.Writing.{Writing}
use Rattle.mapimage.specs.MapImage.{flat_from, waiting_dots}
use Rattle.mapimage.proofs.write_waiting.Given as goal

abbrev pub invariant-loop-i : goal.invariant-loop-i
invariant-loop-i l =
    Writing (flat_from waiting_dots 0 l.w-items) (flat_from waiting_dots l.i (drop l.i l.w-items)) l.at l.fn.out l.out l.next
