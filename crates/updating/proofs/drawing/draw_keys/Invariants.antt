-- `draw_keys` meets its contract: the loop draws the next key, and the next, until neither an entry nor the put is left.
use mathlib.Core.Path.{◌≡◌}
use Prim.Native.Nat.{◌+◌, ◌-◌}
use lib.ListN.{length}
use Rattle.limits.specs.Limits.{entry_limit}
use Rattle.maprecords.specs.Related.{read_map}
use Rattle.updating.specs.Updated.{puts}
use Rattle.updating.proofs.Updates.{Drawing}
use Rattle.updating.proofs.drawing.draw_keys.Given as goal

abbrev pub invariant-loop-x : goal.invariant-loop-x
invariant-loop-x v = (length v.items ≡ entry_limit)
    × Drawing (read_map v.s).map v.u v.s v.op v.l v.last (record { items = v.items; sums = v.sums }) v.f v.x v.done

abbrev pub decreases-loop-x : goal.decreases-loop-x
decreases-loop-x v = (v.third - v.x.own) + puts v.done
