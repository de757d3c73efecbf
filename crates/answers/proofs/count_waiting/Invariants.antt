-- `count_waiting` meets its contract: the loop adds up what each has.
use mathlib.Core.Path.{◌≡◌}
use Prim.Native.Nat.{◌+◌, ◌*◌, ◌≤◌}
use lib.ListN.{drop}
use Rattle.answers.specs.Sizes.{removal_most, removal_size}
use Rattle.listlaws.specs.Fold.{total_of}
use Rattle.answers.proofs.count_waiting.Given as goal

abbrev pub invariant-loop-w : goal.invariant-loop-w
invariant-loop-w l = (l.total ≤ l.w-index * removal_most)
    × (l.total + total_of removal_size (drop l.w-index l.w-items) ≡ total_of removal_size l.w-items)
