-- `carry` meets its contract: a mark a turn.
use mathlib.Core.Path.{◌≡◌}
use lib.ListN.{length}
use Rattle.limits.specs.Limits.{waiting_limit}
use Rattle.queued.proofs.Rowing.{Carrying}
use Rattle.queued.proofs.rows.carry.Given as goal

abbrev pub invariant-loop-k : goal.invariant-loop-k
invariant-loop-k l = (length l.out ≡ waiting_limit) × Carrying l.initial.out l.marks l.table l.k l.out
