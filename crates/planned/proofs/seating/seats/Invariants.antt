-- `seats` meets its contract: a removal's place a turn.
use mathlib.Core.Path.{◌≡◌}
use mathlib.Core.List.{List, map}
use lib.ListN.{length}
use Rattle.clock.specs.declared.Dot.{Dot}
use Rattle.clock.specs.Dots.{dots_of}
use Rattle.removals.specs.declared.Removal.{Removal}
use Rattle.limits.specs.Limits.{waiting_limit}
use Rattle.removals.specs.Model.{under_of}
use Rattle.removals.specs.Waits.{cut_removal}
use Rattle.queued.specs.Queue.{Queued}
use Rattle.planned.specs.Left.{Lined}
use Rattle.planned.proofs.Seats.{Seated}
use Rattle.planned.proofs.seating.seats.Given as goal

abbrev pub invariant-loop-k : goal.invariant-loop-k
invariant-loop-k v =
    (length v.out ≡ waiting_limit) × ((w : List Removal) (l : List (List Dot)) → Queued v.s v.q w → Lined v.s v.all l
    → Seated l (map under_of (map (cut_removal (dots_of v.by)) w)) v.k v.out)
