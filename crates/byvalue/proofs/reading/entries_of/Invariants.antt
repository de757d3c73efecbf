-- `entries_of` meets its contract: one entry after the other, in place.
use mathlib.Core.Path.{◌≡◌}
use mathlib.Core.List.{map}
use Rattle.entries.specs.Model.{entries_as}
use Rattle.maprecords.specs.Reading.{numbers_below}
use Rattle.memory.specs.Memory.{entry_held_at}
use Rattle.byvalue.proofs.reading.entries_of.Given as goal

abbrev pub invariant-loop-j : goal.invariant-loop-j
invariant-loop-j l = l.entries ≡ entries_as (map (entry_held_at l.mem) (numbers_below l.j))
