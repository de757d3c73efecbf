-- `count_kept` meets its contract: the loop counts what is left.
use mathlib.Core.Path.{◌≡◌}
use mathlib.Core.Bool.{true}
use Prim.Native.Nat.{◌≤◌}
use lib.ListN.{length, take}
use Rattle.listlaws.specs.Sift.{those}
use Rattle.culling.specs.Marks.{marked_of, left_items}
use Rattle.salvage.proofs.count_kept.Given as goal

abbrev pub invariant-loop-mark : goal.invariant-loop-mark
invariant-loop-mark l = (l.count ≤ l.mark-index)
    × (l.count ≡ length (those (λ r. true) (left_items 8 (take l.mark-index (marked_of l.marks l.image)))))
