-- `least_in` meets its contract: the loop holds each number against the least so far.
use mathlib.Core.List.{map}
use Prim.Native.Nat.{◌^◌}
use lib.ListN.{drop}
use Rattle.mapimage.specs.MapImage.{key_number, key_numbers}
use Rattle.mapimage.proofs.Flats.{Least}
use Rattle.memory.specs.Memory.{listed_at, removal_at}
use Rattle.delivery.proofs.least_in.Given as goal

abbrev pub invariant-loop-i : goal.invariant-loop-i
invariant-loop-i l = Least (2 ^ 40) l.low l.m (key_numbers l.k (removal_at l.mem l.k))
    (map (key_number l.k) (drop l.i (listed_at l.mem l.k))) l.best
