-- `waiting_of` meets its contract: one removal after the other, in place.
use mathlib.Core.Path.{◌≡◌}
use mathlib.Core.List.{map}
use Rattle.removals.specs.Model.{waiting_as}
use Rattle.maprecords.specs.Reading.{numbers_below}
use Rattle.memory.specs.Memory.{removal_at}
use Rattle.byvalue.proofs.reading.waiting_of.Given as goal

abbrev pub invariant-loop-k : goal.invariant-loop-k
invariant-loop-k l = l.waiting ≡ waiting_as (map (removal_at l.mem) (numbers_below l.k))
