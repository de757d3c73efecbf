-- `FinishedEntries::side` meets its contract: the loop adds the entries on the side, each finished.
use mathlib.Core.List.{List, ◌++◌}
use Prim.Native.Nat.{◌≤◌, ◌+◌}
use lib.ListN.{drop}
use Rattle.listlaws.specs.Order.{◌∈◌}
use Rattle.listlaws.specs.Sift.{sift, those}
use Rattle.entries.specs.declared.Entry.{Entry}
use Rattle.entries.specs.Model.{LaidDown}
use Rattle.removals.specs.Model.{waiting_of}
use Rattle.entries.specs.Steps.{Finishes}
use Rattle.entries.specs.Entries.{stays, run, aside}
use Rattle.entries.proofs.Finishing.{Going}
use Rattle.entries.proofs.FinishedEntries.side.Given as goal

abbrev pub invariant-loop-x : goal.invariant-loop-x
invariant-loop-x v =
    (v.out.count ≤ v.initial.out.count + v.x-index)
    × ((l : List Entry) → ((e : Entry) → e ∈ v.x-items → LaidDown e) → Finishes l v.initial.out
    → Going (l ++ sift stays (run (waiting_of v.waiting)) (those (aside v.below v.key) v.x-items))
    (sift stays (run (waiting_of v.waiting)) (those (aside v.below v.key) (drop v.x-index v.x-items))) v.out)
