-- `entries_whole` meets its contract: the loop stops at an entry that is not whole.
use mathlib.Core.Path.{◌≡◌}
use lib.ListN.{drop}
use Rattle.scan.specs.Each.{every}
use Rattle.maprecords.specs.Related.{entry_whole}
use Rattle.memory.specs.Memory.{clock_place, dots_at, entries_at}
use Rattle.delivery.proofs.entries_whole.Given as goal

abbrev pub invariant-loop-j : goal.invariant-loop-j
invariant-loop-j l =
    every (entry_whole (dots_at l.mem clock_place)) (entries_at l.mem)
    ≡ every (entry_whole (dots_at l.mem clock_place)) (drop l.j (entries_at l.mem))
