-- `least_in` meets its contract: the loop holds each number against the least so far.
use mathlib.Core.List.{map}
use Prim.Native.Nat.{◌^◌}
use lib.ListN.{drop}
use Rattle.mapimage.specs.MapImage.{key_number}
use Rattle.mapimage.proofs.Flats.{Least}
use Rattle.mapimage.proofs.least_in.Given as goal

abbrev pub invariant-loop-k : goal.invariant-loop-k
invariant-loop-k l = Least (2 ^ 40) l.low l.fn.m (map (key_number l.index) l.k-items) (map (key_number l.index) (drop l.k-index l.k-items)) l.best
