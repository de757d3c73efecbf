-- `add_row` meets its contract: a mark a turn.
use mathlib.Core.Path.{◌≡◌}
use lib.ListN.{length}
use Rattle.limits.specs.Limits.{waiting_limit}
use Rattle.queued.proofs.Counting.{Adding}
use Rattle.queued.proofs.rows.add_row.Given as goal

abbrev pub invariant-loop-k : goal.invariant-loop-k
invariant-loop-k l = (length l.out ≡ waiting_limit) × Adding l.listed-items l.initial.out l.k l.out
