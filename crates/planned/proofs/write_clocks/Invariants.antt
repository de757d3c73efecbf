-- `write_clocks` meets its contract: a removal a turn.
use mathlib.Core.List.{List}
use Prim.Native.Nat.{◌+◌, ◌*◌, ◌≤◌}
use lib.ListN.{length, drop}
use Rattle.removals.specs.declared.Removal.{Removal}
use Rattle.records.proofs.Writing.{Writing}
use Rattle.mapimage.specs.MapImage.{flat_from, waiting_dots}
use Rattle.planned.specs.Planned.{Plans}
use Rattle.planned.proofs.write_clocks.Given as goal

abbrev pub invariant-loop-i : goal.invariant-loop-i
invariant-loop-i l =
    (w v result : List Removal) → Plans l.s l.t w v result l.fn.p → l.at + length (flat_from waiting_dots 0 result) * 16 ≤ length l.initial.out
    → Writing (flat_from waiting_dots 0 result) (flat_from waiting_dots l.i (drop l.i result)) l.at l.initial.out l.out l.next
