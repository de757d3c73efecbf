-- `count_values` meets its contract: the loop adds up what each has.
use mathlib.Core.Path.{◌≡◌}
use Prim.Native.Nat.{◌+◌, ◌*◌, ◌≤◌}
use lib.ListN.{drop}
use Rattle.answers.specs.Sizes.{value_most, value_size}
use Rattle.listlaws.specs.Fold.{total_of}
use Rattle.answers.proofs.count_values.Given as goal

abbrev pub invariant-loop-v : goal.invariant-loop-v
invariant-loop-v l = (l.total ≤ l.v-index * value_most)
    × (l.total + total_of value_size (drop l.v-index l.v-items) ≡ total_of value_size l.v-items)
