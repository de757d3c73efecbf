-- `write_dots` meets its contract: a record for each dot, one behind the other.
use lib.ListN.{drop}
use Rattle.records.proofs.Writing.{Writing}
use Rattle.clockimage.specs.Image.{dot_records}
use Rattle.clockimage.proofs.write_dots.Given as goal

abbrev pub invariant-loop-d : goal.invariant-loop-d
invariant-loop-d l = Writing (dot_records l.kind l.index l.key l.d-items)
    (dot_records l.kind l.index l.key (drop l.d-index l.d-items)) l.at l.fn.out l.out l.next
