-- `clock_of` meets its contract: the loop adds a record's dot a turn, in place.
use mathlib.Core.Path.{◌≡◌}
use mathlib.Core.List.{map}
use Prim.Native.Nat.{◌≤◌}
use Rattle.limits.specs.Limits.{dot_limit}
use Rattle.clock.specs.Dots.{clock_of}
use Rattle.records.specs.Records.{records_from}
use Rattle.clockimage.specs.Image.{dot_of}
use Rattle.runs.proofs.clock_of.Given as goal

abbrev pub invariant-loop-i : goal.invariant-loop-i
invariant-loop-i l = (l.n ≤ dot_limit) × (l.clock ≡ clock_of (map dot_of (records_from l.run 0 l.i)))
