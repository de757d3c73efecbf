-- `dotted_at` meets its contract: the loop stops at a value with no dot.
use mathlib.Core.Path.{◌≡◌}
use lib.ListN.{drop}
use Rattle.scan.specs.Each.{every}
use Rattle.maprecords.specs.Related.{dotted}
use Rattle.memory.specs.Memory.{values_at}
use Rattle.delivery.proofs.dotted_at.Given as goal

abbrev pub invariant-loop-i : goal.invariant-loop-i
invariant-loop-i l = every dotted (values_at l.mem l.j) ≡ every dotted (drop l.i (values_at l.mem l.j))
