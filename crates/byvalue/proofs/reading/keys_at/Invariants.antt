-- `keys_at` meets its contract: one key after the other.
use mathlib.Core.Path.{◌≡◌}
use mathlib.Core.List.{map}
use Rattle.removals.specs.Model.{keys_as}
use Rattle.records.specs.Bytes.{num_at}
use Rattle.maprecords.specs.Reading.{numbers_below}
use Rattle.memory.specs.Memory.{key_place}
use Rattle.byvalue.proofs.reading.keys_at.Given as goal

abbrev pub invariant-loop-i : goal.invariant-loop-i
invariant-loop-i l = l.keys ≡ keys_as (map (λ j. num_at 2 (key_place l.k j) l.mem) (numbers_below l.i))
