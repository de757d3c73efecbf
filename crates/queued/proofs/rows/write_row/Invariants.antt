-- `write_row` meets its contract: a mark a turn.
use lib.ListN.{drop}
use Rattle.records.proofs.Writing.{Writing}
use Rattle.queued.specs.Rowed.{row_records}
use Rattle.queued.proofs.rows.write_row.Given as goal

abbrev pub invariant-loop-k : goal.invariant-loop-k
invariant-loop-k l =
    Writing (row_records l.key 0 l.listed-items) (row_records l.key l.k (drop l.k l.listed-items)) l.at l.initial.out l.out l.next
