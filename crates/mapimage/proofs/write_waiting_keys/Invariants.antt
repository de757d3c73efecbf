-- `write_waiting_keys` meets its contract: the least number that is left, again and again.
use mathlib.Core.Path.{◌≡◌}
use mathlib.Core.Bool.{true}
use Prim.Native.Nat.{◌-◌, ◌^◌}
use lib.Dec.{ltb}
use Rattle.removals.specs.Model.{waiting_of}
use Rattle.scan.specs.Each.{every}
use Rattle.mapimage.specs.MapImage.{flat_from, key_numbers}
use Rattle.mapimage.proofs.Selecting.{Selecting}
use Rattle.mapimage.proofs.write_waiting_keys.Given as goal

abbrev pub invariant-loop-best : goal.invariant-loop-best
invariant-loop-best l = (every (λ x. ltb x (2 ^ 40)) (flat_from key_numbers 0 (waiting_of l.waiting)) ≡ true)
    × Selecting (2 ^ 40) (flat_from key_numbers 0 (waiting_of l.waiting)) l.at l.initial.out l.out l.next l.best

abbrev pub decreases-loop-best : goal.decreases-loop-best
decreases-loop-best l = 2 ^ 40 - l.best
