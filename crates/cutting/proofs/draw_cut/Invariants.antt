-- `draw_cut` meets its contract: one entry after the other.
use mathlib.Core.Path.{◌≡◌}
use Prim.Native.Nat.{◌-◌}
use lib.ListN.{length}
use Rattle.clock.specs.Dots.{dots_of}
use Rattle.limits.specs.Limits.{entry_limit}
use Rattle.removals.specs.Model.{keys_of}
use Rattle.map.specs.Model.{entries_in}
use Rattle.maprecords.specs.Related.{read_map}
use Rattle.cutting.specs.Cut.{cut_where}
use Rattle.cutting.proofs.Walked.{Walked}
use Rattle.cutting.proofs.draw_cut.Given as goal

abbrev pub invariant-loop-x : goal.invariant-loop-x
invariant-loop-x v = Walked v.s v.l (cut_where v.all (keys_of v.keys) (dots_of v.by)) (entries_in (read_map v.s).map) v.x
    (record { items = v.items; sums = v.sums })
    × (length v.items ≡ entry_limit)

abbrev pub decreases-loop-x : goal.decreases-loop-x
decreases-loop-x v = v.end - v.x.own
