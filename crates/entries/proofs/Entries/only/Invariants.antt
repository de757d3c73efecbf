-- `Entries::only` meets its contract: the loop sifts the entries.
use mathlib.Core.List.{[]}
use Prim.Native.Nat.{◌≤◌}
use lib.Dec.{eqb}
use Rattle.listlaws.proofs.SliceSifting.{Sifting}
use Rattle.entries.specs.Model.{entries_as}
use Rattle.entries.proofs.Entries.only.Given as goal

abbrev pub invariant-loop-e : goal.invariant-loop-e
invariant-loop-e l = (l.out.len ≤ l.e-index) × Sifting entries_as (λ e. eqb e.key l.key) (λ e. e) [] l.e-items l.e-index l.out
