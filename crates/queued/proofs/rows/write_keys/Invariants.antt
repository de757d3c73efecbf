-- `write_keys` meets its contract: a key a turn.
use mathlib.Core.List.{List}
use Prim.Native.Nat.{◌+◌, ◌*◌, ◌≤◌, ◌-◌}
use lib.ListN.{length}
use Rattle.removals.specs.declared.Removal.{Removal}
use Rattle.limits.specs.Limits.{waiting_limit}
use Rattle.mapimage.specs.MapImage.{waiting_keys}
use Rattle.queued.specs.Queue.{Keyed}
use Rattle.queued.specs.Planned.{Moves}
use Rattle.queued.proofs.Rowing.{KeysWriting}
use Rattle.queued.proofs.rows.write_keys.Given as goal

abbrev pub invariant-loop-i : goal.invariant-loop-i
invariant-loop-i l =
    ((l.i ≤ l.n) × (l.n * 16 ≤ length l.s)) × (((l.j ≤ l.m) × (l.m * 16 ≤ length l.t))
    × ((w v result : List Removal) → Keyed l.s l.from l.n 0 w → Keyed l.t l.start l.m 0 v → Moves w v result l.ours l.theirs
    → length result ≤ waiting_limit
    → l.at + length (waiting_keys result) * 16 ≤ length l.initial.out
    → KeysWriting l.s l.n l.t l.m w v result l.at l.initial.out l.i l.j l.out l.next))

abbrev pub decreases-loop-i : goal.decreases-loop-i
decreases-loop-i l = (l.n + l.m) - (l.i + l.j)
