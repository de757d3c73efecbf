-- `cut_all` meets its contract: a removal a turn comes to its place.
use mathlib.Core.List.{List, map}
use Prim.Native.Nat.{◌≤◌}
use Rattle.clock.specs.Dots.{dots_of}
use Rattle.removals.specs.declared.Removal.{Removal}
use Rattle.removals.specs.Model.{under_of}
use Rattle.removals.specs.Waits.{cut_removal}
use Rattle.queued.specs.Queue.{Queued}
use Rattle.planned.proofs.Gathering.{Gathers}
use Rattle.planned.proofs.seating.cut_all.Given as goal

abbrev pub invariant-loop-k : goal.invariant-loop-k
invariant-loop-k l =
    (l.all.len ≤ l.k) × ((w : List Removal) → Queued l.s l.q w → Gathers l.s (map under_of (map (cut_removal (dots_of l.by)) w)) l.k l.all)
