-- `covers_at` meets its contract: the loop looks for a dot beyond the clock.
use mathlib.Core.Path.{◌≡◌}
use lib.ListN.{drop}
use Rattle.clock.specs.Dots.{covers}
use Rattle.memory.specs.Memory.{dots_at}
use Rattle.delivery.proofs.covers_at.Given as goal

abbrev pub invariant-loop-i : goal.invariant-loop-i
invariant-loop-i l = covers (dots_at l.mem l.at) (dots_at l.mem l.other)
    ≡ covers (dots_at l.mem l.at) (drop l.i (dots_at l.mem l.other))
