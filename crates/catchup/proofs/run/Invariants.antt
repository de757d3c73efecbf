-- `run` meets its contract: what is left of the run from the running map is the run.
use mathlib.Core.Path.{◌≡◌}
use Prim.Native.Nat.{◌-◌, ◌≤◌}
use lib.ListN.{length, take, drop}
use Rattle.mapimage.specs.MapImage.{map_longest}
use Rattle.promises.specs.CatchUp.{operations_of, outcome_from, outcome_of}
use Rattle.catchup.proofs.run.Given as goal

abbrev pub invariant-loop-at : goal.invariant-loop-at
invariant-loop-at l =
    ((l.at ≤ length l.list) × (l.place ≤ l.at)) × ((l.left ≤ map_longest) × ((length l.here ≡ map_longest) × (length l.there ≡ map_longest)))
    × (outcome_of (take l.len l.initial.here) l.list ≡ outcome_from l.place (take l.left l.here) (operations_of (drop l.at l.list)))

abbrev pub decreases-loop-at : goal.decreases-loop-at
decreases-loop-at l = length l.list - l.at
