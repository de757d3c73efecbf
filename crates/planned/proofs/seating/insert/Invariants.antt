-- `insert` meets its contract: one a turn moves up.
use Prim.Native.Nat.{◌≤◌}
use lib.ListN.{get_or}
use Rattle.planned.specs.Planned.{no_held}
use Rattle.planned.proofs.Inserting.{Moved}
use Rattle.planned.proofs.seating.insert.Given as goal

abbrev pub invariant-loop-i : goal.invariant-loop-i
invariant-loop-i l = (l.k ≤ l.i) × Moved l.k l.all.items (get_or l.initial.out.items l.k no_held) l.i l.out.items
