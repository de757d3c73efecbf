-- `write_entries` meets its contract: one entry after the other.
use lib.ListN.{drop}
use Rattle.records.proofs.Writing.{Writing}
use Rattle.mapimage.specs.MapImage.{flat_from, entry_records}
use Rattle.mapimage.proofs.write_entries.Given as goal

abbrev pub invariant-loop-e : goal.invariant-loop-e
invariant-loop-e l =
    let f = entry_records l.kind in
    Writing (flat_from f 0 l.e-items) (flat_from f l.e-index (drop l.e-index l.e-items)) l.at l.fn.out l.out l.next
