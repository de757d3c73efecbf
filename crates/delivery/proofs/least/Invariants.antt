-- `least` meets its contract: the loop holds each removal against the least so far.
use Prim.Native.Nat.{◌^◌}
use lib.ListN.{drop}
use Rattle.mapimage.specs.MapImage.{flat_from, key_numbers}
use Rattle.mapimage.proofs.Flats.{Least}
use Rattle.memory.specs.Memory.{waiting_at}
use Rattle.delivery.proofs.least.Given as goal

abbrev pub invariant-loop-k : goal.invariant-loop-k
invariant-loop-k l = Least (2 ^ 40) l.low (2 ^ 40) (flat_from key_numbers 0 (waiting_at l.mem))
    (flat_from key_numbers l.k (drop l.k (waiting_at l.mem))) l.best
