-- `queue_of` meets its contract: the run of a removal's dots a turn.
use mathlib.Core.Path.{◌≡◌}
use Prim.Native.Nat.{◌*◌, ◌+◌, ◌≤◌}
use lib.ListN.{length}
use Rattle.limits.specs.Limits.{waiting_limit}
use Rattle.map.specs.Model.{waiting_in}
use Rattle.maprecords.specs.Related.{read_map}
use Rattle.queued.proofs.Taking.{Taking}
use Rattle.queued.proofs.queue_of.Given as goal

abbrev pub invariant-loop-i : goal.invariant-loop-i
invariant-loop-i l =
    ((l.at ≤ l.end) × ((l.end * 16 ≤ length l.s) × ((l.n ≤ waiting_limit) × (length l.starts ≡ waiting_limit + 1))))
    × Taking l.s l.end (waiting_in (read_map l.s).map) l.at l.i l.starts
