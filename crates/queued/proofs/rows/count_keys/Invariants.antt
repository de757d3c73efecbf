-- `count_keys` meets its contract: a key a turn.
use mathlib.Core.List.{List}
use Prim.Native.Nat.{ℕ, ◌+◌, ◌*◌, ◌≤◌, ◌<◌, ◌-◌}
use lib.ListN.{length, get_or}
use Rattle.removals.specs.declared.Removal.{Removal}
use Rattle.limits.specs.Limits.{waiting_limit}
use Rattle.queued.specs.Queue.{Keyed}
use Rattle.queued.specs.Planned.{SoundRemovals, Moves}
use Rattle.queued.proofs.Counting.{KeysCounting}
use Rattle.queued.proofs.rows.count_keys.Given as goal

abbrev pub invariant-loop-i : goal.invariant-loop-i
invariant-loop-i l =
    ((l.i ≤ l.n) × (l.n * 16 ≤ length l.s)) × (((l.j ≤ l.m) × (l.m * 16 ≤ length l.t))
    × ((l.total ≤ (l.i + l.j) * waiting_limit) × (((p : ℕ) → p < waiting_limit → get_or l.counts p 0 ≤ l.i + l.j)
    × ((w v result : List Removal) → Keyed l.s l.from l.n 0 w → Keyed l.t l.start l.m 0 v → Moves w v result l.ours l.theirs
    → length result ≤ waiting_limit
    → SoundRemovals result → KeysCounting l.s l.n l.t l.m w v result l.i l.j l.total l.counts))))

abbrev pub decreases-loop-i : goal.decreases-loop-i
decreases-loop-i l = (l.n + l.m) - (l.i + l.j)
