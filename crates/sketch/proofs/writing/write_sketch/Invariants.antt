-- `write_sketch` meets its contract: one entry after the other, and one section behind the other.
use mathlib.Core.List.{◌++◌}
use Rattle.clock.specs.Dots.{dots_of}
use Rattle.records.proofs.Writing.{Writing}
use Rattle.clockimage.specs.Image.{dot_records}
use Rattle.sketch.specs.Drawn.{drawn_all, sections_of}
use Rattle.sketch.proofs.Sources.{sections_from, left_from}
use Rattle.sketch.proofs.writing.write_sketch.Given as goal

abbrev pub invariant-loop-kind : goal.invariant-loop-kind
invariant-loop-kind l =
    Writing (dot_records 1 0 0 (dots_of l.fn.clock) ++ sections_of (drawn_all l.s l.t l.sk)) (sections_from l.kind (drawn_all l.s l.t l.sk))
    0 l.fn.out l.out l.next

abbrev pub invariant-loop-e : goal.invariant-loop-e
invariant-loop-e l =
    Writing (dot_records 1 0 0 (dots_of l.fn.clock) ++ sections_of (drawn_all l.s l.t l.fn.sk)) (left_from l.s l.t l.kind l.e-items l.e-index)
    0 l.fn.out l.out l.next
