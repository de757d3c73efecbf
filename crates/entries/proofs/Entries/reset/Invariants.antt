-- `Entries::reset` meets its contract: the loop sifts the entries, each cut.
use mathlib.Core.List.{[]}
use Prim.Native.Nat.{◌≤◌}
use Rattle.listlaws.proofs.SliceSifting.{Sifting}
use Rattle.clock.specs.Dots.{dots_of}
use Rattle.entries.specs.Model.{entries_as}
use Rattle.entries.specs.Entries.{stays, cut_entry}
use Rattle.entries.proofs.Entries.reset.Given as goal

abbrev pub invariant-loop-e : goal.invariant-loop-e
invariant-loop-e l = (l.out.len ≤ l.e-index) × Sifting entries_as stays (cut_entry (dots_of l.by)) [] l.e-items l.e-index l.out
