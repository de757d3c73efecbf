-- `values_below` meets its contract: the loop counts the values.
use mathlib.Core.Path.{◌≡◌}
use mathlib.Core.Bool.{◌&&◌}
use Prim.Native.Nat.{◌≤◌}
use lib.Dec.{ltb}
use lib.ListN.{length, take}
use Rattle.listlaws.specs.Sift.{those}
use Rattle.maprecords.specs.Reading.{under_key}
use Rattle.culling.specs.Marks.{marked_of, left_items}
use Rattle.mending.proofs.values_below.Given as goal

abbrev pub invariant-loop-i : goal.invariant-loop-i
invariant-loop-i l = (l.count ≤ l.i) × (l.count ≡ length (those (λ s. under_key 3 l.key s && ltb s.index l.index)
    (left_items 5 (take l.i (marked_of l.marks l.image)))))
