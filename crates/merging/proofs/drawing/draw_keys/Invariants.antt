-- `draw_keys` meets its contract: the loop draws the next key of both maps, and the next, until neither has more.
use mathlib.Core.Path.{◌≡◌}
use Prim.Native.Nat.{◌+◌, ◌-◌}
use lib.ListN.{length}
use Rattle.limits.specs.Limits.{entry_limit}
use Rattle.maprecords.specs.Related.{read_map}
use Rattle.merging.proofs.Merges.{Drawing}
use Rattle.merging.proofs.drawing.draw_keys.Given as goal

abbrev pub invariant-loop-x : goal.invariant-loop-x
invariant-loop-x v = Drawing (read_map v.s).map (read_map v.t).map v.s v.t v.l v.m
    (record { items = v.items; sums = v.sums }) v.f v.g v.x v.y
    × (length v.items ≡ entry_limit)

abbrev pub decreases-loop-x : goal.decreases-loop-x
decreases-loop-x v = (v.third - v.x.own) + (v.last - v.y.own)
