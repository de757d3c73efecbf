-- `write` meets its contract: one key after the other, those that differ written.
use mathlib.Core.List.{List}
use Prim.Native.Nat.{◌+◌, ◌-◌}
use Rattle.map.specs.Model.{entries_in}
use Rattle.records.specs.Writing.{Wrote}
use Rattle.maprecords.specs.Related.{read_map}
use Rattle.differences.specs.declared.Difference.{Difference}
use Rattle.differences.specs.Differences.{differences_of, all_told}
use Rattle.differing.proofs.SoFar.{Telling}
use Rattle.differing.proofs.telling.write.Given as goal

abbrev pub invariant-loop-x : goal.invariant-loop-x
invariant-loop-x v = (done : List Difference)
    × Telling v.s v.t v.l v.m (differences_of (entries_in (read_map v.s).map) (entries_in (read_map v.t).map)) v.x v.y done
    × Wrote 0 (all_told done) v.initial.out v.out v.place

abbrev pub decreases-loop-x : goal.decreases-loop-x
decreases-loop-x v = (v.l.third - v.x.own) + (v.m.third - v.y.own)
