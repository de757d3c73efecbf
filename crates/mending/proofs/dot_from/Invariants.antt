-- `dot_from` meets its contract: the loop looks for the first dot of the index.
use mathlib.Core.Path.{◌≡◌}
use Prim.Native.Nat.{◌≤◌}
use Rattle.mending.specs.Tables.{dots_after}
use Rattle.mending.proofs.dot_from.Given as goal

abbrev pub invariant-loop-i : goal.invariant-loop-i
invariant-loop-i l = (l.from ≤ l.i) × (dots_after l.marks l.image l.index l.from ≡ dots_after l.marks l.image l.index l.i)
