-- `write_keys` meets its contract: a record for each key, one behind the other.
use mathlib.Core.List.{map}
use lib.ListN.{drop}
use Rattle.records.proofs.Writing.{Writing}
use Rattle.opimage.specs.OpImage.{key_record}
use Rattle.opimage.proofs.write_keys.Given as goal

abbrev pub invariant-loop-k : goal.invariant-loop-k
invariant-loop-k l = Writing (map (key_record l.kind l.index) l.k-items) (map (key_record l.kind l.index) (drop l.k-index l.k-items))
    l.at l.fn.out l.out l.next
