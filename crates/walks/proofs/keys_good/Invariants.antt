-- `keys_good` meets its contract: the loop follows the definition.
use mathlib.Core.Path.{◌≡◌}
use lib.ListN.{length}
use Rattle.limits.specs.Limits.{waiting_limit}
use Rattle.walks.proofs.Loops.{Listing}
use Rattle.walks.proofs.keys_good.Given as goal

abbrev pub invariant-loop-i : goal.invariant-loop-i
invariant-loop-i l = (length l.counts ≡ waiting_limit) × Listing l.n l.s l.at l.end l.i l.low l.counts
