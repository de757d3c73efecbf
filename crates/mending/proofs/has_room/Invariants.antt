-- `has_room` meets its contract: the loop looks for the key, and counts those of its united clock.
use Prim.Native.Nat.{◌≤◌}
use lib.ListN.{take}
use Rattle.culling.specs.Marks.{marked_of, left_items}
use Rattle.mending.specs.Tables.{fourth_of}
use Rattle.mending.proofs.Rooming.{Rooming}
use Rattle.mending.proofs.has_room.Given as goal

abbrev pub invariant-loop-i : goal.invariant-loop-i
invariant-loop-i l = (l.count ≤ l.i)
    × Rooming (fourth_of l.marks l.image) l.r (left_items 0 (take l.i (marked_of l.marks l.image))) l.count
