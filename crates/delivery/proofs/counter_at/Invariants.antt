-- `counter_at` meets its contract: the loop looks for the actor's dot.
use mathlib.Core.Path.{◌≡◌}
use lib.ListN.{drop}
use Rattle.clock.specs.Dots.{counter_in}
use Rattle.memory.specs.Memory.{dots_at}
use Rattle.delivery.proofs.counter_at.Given as goal

abbrev pub invariant-loop-i : goal.invariant-loop-i
invariant-loop-i l = counter_in (dots_at l.mem l.at) l.actor ≡ counter_in (drop l.i (dots_at l.mem l.at)) l.actor
