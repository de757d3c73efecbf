-- `Entries::at` meets its contract: the loop looks for the key.
use mathlib.Core.List.{[]}
use lib.Dec.{eqb}
use Rattle.listlaws.proofs.SlicePassing.{Passing}
use Rattle.entries.specs.Model.{entry_as}
use Rattle.entries.proofs.Entries.at.Given as goal

abbrev pub invariant-loop-e : goal.invariant-loop-e
invariant-loop-e l = Passing (λ e. eqb e.key l.key) (λ e. e) (entry_as l.key [] []) l.e-items l.e-index
