-- `Flat::of` meets its contract: one dot after the other is set apart.
use mathlib.Core.Path.{◌≡◌}
use lib.ListN.{length, take}
use Rattle.limits.specs.Limits.{dot_limit}
use Rattle.sketch.specs.Drawn.{beside}
use Rattle.sketch.proofs.Flat.of.Given as goal

abbrev pub invariant-loop-i : goal.invariant-loop-i
invariant-loop-i l = ((length l.counters ≡ dot_limit) × (length l.actors ≡ dot_limit))
    × (take l.i (beside l.actors l.counters) ≡ take l.i l.d-items)
