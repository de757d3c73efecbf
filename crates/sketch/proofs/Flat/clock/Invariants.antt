-- `Flat::clock` meets its contract: one dot after the other is put together.
use mathlib.Core.Path.{◌≡◌}
use lib.ListN.{length, take}
use Rattle.limits.specs.Limits.{dot_limit}
use Rattle.sketch.specs.Drawn.{beside}
use Rattle.sketch.proofs.Flat.clock.Given as goal

abbrev pub invariant-loop-i : goal.invariant-loop-i
invariant-loop-i l = (length l.dots ≡ dot_limit) × (take l.i l.dots ≡ take l.i (beside l.self.actors l.self.counters))
