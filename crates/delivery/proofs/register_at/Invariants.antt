-- `register_at` meets its contract: one value after the other, in place.
use mathlib.Core.Path.{◌≡◌}
use mathlib.Core.List.{map}
use Rattle.register.specs.Values.{register_of}
use Rattle.maprecords.specs.Reading.{numbers_below}
use Rattle.memory.specs.Memory.{value_place, value_at}
use Rattle.delivery.proofs.register_at.Given as goal

abbrev pub invariant-loop-i : goal.invariant-loop-i
invariant-loop-i l = l.register ≡ register_of (map (λ k. value_at l.mem (value_place l.j k)) (numbers_below l.i))
