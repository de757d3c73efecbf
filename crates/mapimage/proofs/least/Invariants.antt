-- `least` meets its contract: the loop holds each removal against the least so far.
use Prim.Native.Nat.{◌^◌}
use lib.ListN.{drop}
use Rattle.mapimage.specs.MapImage.{flat_from, key_numbers}
use Rattle.mapimage.proofs.Flats.{Least}
use Rattle.mapimage.proofs.least.Given as goal

abbrev pub invariant-loop-i : goal.invariant-loop-i
invariant-loop-i l = Least (2 ^ 40) l.low (2 ^ 40) (flat_from key_numbers 0 l.w-items) (flat_from key_numbers l.i (drop l.i l.w-items)) l.best
