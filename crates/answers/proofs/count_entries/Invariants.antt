-- `count_entries` meets its contract: the loop adds up what each has.
use mathlib.Core.Path.{◌≡◌}
use Prim.Native.Nat.{◌+◌, ◌*◌, ◌≤◌}
use lib.ListN.{drop}
use Rattle.answers.specs.Sizes.{entry_most, entry_size}
use Rattle.listlaws.specs.Fold.{total_of}
use Rattle.answers.proofs.count_entries.Given as goal

abbrev pub invariant-loop-e : goal.invariant-loop-e
invariant-loop-e l = (l.total ≤ l.e-index * entry_most)
    × (l.total + total_of entry_size (drop l.e-index l.e-items) ≡ total_of entry_size l.e-items)
