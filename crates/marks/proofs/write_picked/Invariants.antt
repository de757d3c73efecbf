-- `write_picked` meets its contract: a record for each dot whose mark is set, one behind the other.
use mathlib.Core.Path.{◌≡◌}
use lib.ListN.{length, drop}
use Rattle.limits.specs.Limits.{dot_limit}
use Rattle.records.proofs.Writing.{Writing}
use Rattle.clockimage.specs.Image.{dot_records}
use Rattle.runs.specs.Run.{run_dots}
use Rattle.marks.specs.Marks.{picked}
use Rattle.marks.proofs.write_picked.Given as goal

abbrev pub invariant-loop-i : goal.invariant-loop-i
invariant-loop-i l =
    (length l.marks ≡ dot_limit)
    × Writing (dot_records l.kind l.index l.key (picked l.marks (run_dots l.run)))
    (dot_records l.kind l.index l.key (picked (drop l.i l.marks) (drop l.i (run_dots l.run)))) l.at l.initial.out l.out l.next
