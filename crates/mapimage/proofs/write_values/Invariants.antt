-- `write_values` meets its contract: one value after the other.
use lib.ListN.{drop}
use Rattle.records.proofs.Writing.{Writing}
use Rattle.mapimage.specs.MapImage.{flat_from, value_records}
use Rattle.mapimage.proofs.write_values.Given as goal

abbrev pub invariant-loop-i : goal.invariant-loop-i
invariant-loop-i l =
    let f = value_records l.kind l.key in
    Writing (flat_from f 0 l.v-items) (flat_from f l.i (drop l.i l.v-items)) l.at l.fn.out l.out l.next
