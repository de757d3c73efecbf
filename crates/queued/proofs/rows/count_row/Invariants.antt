-- `count_row` meets its contract: a mark a turn.
use mathlib.Core.Path.{◌≡◌}
use Prim.Native.Nat.{ℕ, ◌+◌, ◌≤◌}
use lib.ListN.{length, drop}
use Rattle.queued.specs.Rowed.{row_records}
use Rattle.queued.proofs.rows.count_row.Given as goal

abbrev pub invariant-loop-listed : goal.invariant-loop-listed
invariant-loop-listed l = (l.total ≤ l.listed-index)
    × ((key : ℕ) → length (row_records key 0 l.listed-items) ≡ l.total + length (row_records key l.listed-index (drop l.listed-index l.listed-items)))
