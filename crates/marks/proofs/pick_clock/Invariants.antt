-- `pick_clock` meets its contract: the loop adds each dot whose mark is set.
use mathlib.Core.Path.{◌≡◌}
use lib.ListN.{length, drop}
use Rattle.listlaws.proofs.Growing.{Growing}
use Rattle.clock.specs.Dots.{clock_of}
use Rattle.limits.specs.Limits.{dot_limit}
use Rattle.runs.specs.Run.{run_dots}
use Rattle.marks.specs.Marks.{picked}
use Rattle.marks.proofs.pick_clock.Given as goal

abbrev pub invariant-loop-i : goal.invariant-loop-i
invariant-loop-i l =
    (length l.marks ≡ dot_limit) × Growing clock_of (picked l.marks (run_dots l.run))
    (picked (drop l.i l.marks) (drop l.i (run_dots l.run))) l.clock
