-- `Entries::remove` meets its contract: the loop sifts the entries, each with the removal.
use mathlib.Core.List.{[]}
use Prim.Native.Nat.{◌≤◌}
use Rattle.listlaws.proofs.SliceSifting.{Sifting}
use Rattle.entries.specs.Model.{entries_as}
use Rattle.entries.specs.Entries.{stays, remove_from}
use Rattle.entries.proofs.Entries.remove.Given as goal

abbrev pub invariant-loop-e : goal.invariant-loop-e
invariant-loop-e l = (l.out.len ≤ l.e-index) × Sifting entries_as stays (remove_from l.r) [] l.e-items l.e-index l.out
