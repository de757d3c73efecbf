-- `next_left` meets its contract: the loop passes what is not marked.
use mathlib.Core.Path.{◌≡◌}
use mathlib.Core.List.{List}
use lib.ListN.{length, drop}
use Rattle.clock.specs.declared.Dot.{Dot}
use Rattle.marks.specs.Marks.{picked}
use Rattle.planned.proofs.left.next_left.Given as goal

abbrev pub invariant-loop-i : goal.invariant-loop-i
invariant-loop-i v = (l : List Dot) → length l ≡ v.n
    → picked (drop v.fn.from v.marks) (drop v.fn.from l) ≡ picked (drop v.i v.marks) (drop v.i l)
