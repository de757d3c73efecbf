-- `write_sources` meets its contract: one value after the other.
use lib.ListN.{drop}
use Rattle.records.proofs.Writing.{Writing}
use Rattle.mapimage.specs.MapImage.{flat_from, value_records}
use Rattle.sketch.specs.Drawn.{value_from}
use Rattle.sketch.proofs.writing.write_sources.Given as goal

abbrev pub invariant-loop-i : goal.invariant-loop-i
invariant-loop-i l =
    Writing (flat_from (λ j x. value_records l.kind l.fn.e.key j (value_from l.s l.t x)) 0 l.x-items)
    (flat_from (λ j x. value_records l.kind l.fn.e.key j (value_from l.s l.t x)) l.i (drop l.i l.x-items)) l.at l.initial.out l.out l.next
