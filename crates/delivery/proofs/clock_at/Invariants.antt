-- `clock_at` meets its contract: one dot after the other, in place.
use mathlib.Core.Path.{◌≡◌}
use mathlib.Core.List.{map}
use Prim.Native.Nat.{◌+◌, ◌*◌}
use Rattle.clock.specs.Dots.{clock_of}
use Rattle.maprecords.specs.Reading.{numbers_below}
use Rattle.memory.specs.Memory.{dot_room, dot_at}
use Rattle.delivery.proofs.clock_at.Given as goal

abbrev pub invariant-loop-i : goal.invariant-loop-i
invariant-loop-i l = l.clock ≡ clock_of (map (λ j. dot_at l.mem (l.at + 1 + j * dot_room)) (numbers_below l.i))
