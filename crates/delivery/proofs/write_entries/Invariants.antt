-- `write_entries` meets its contract: one entry after the other.
use lib.ListN.{drop}
use Rattle.records.proofs.Writing.{Writing}
use Rattle.mapimage.specs.MapImage.{flat_from, entry_records}
use Rattle.memory.specs.Memory.{entries_at}
use Rattle.delivery.proofs.write_entries.Given as goal

abbrev pub invariant-loop-j : goal.invariant-loop-j
invariant-loop-j l =
    Writing (flat_from (entry_records l.kind) 0 (entries_at l.mem))
    (flat_from (entry_records l.kind) l.j (drop l.j (entries_at l.mem))) l.at l.initial.out l.out l.next
