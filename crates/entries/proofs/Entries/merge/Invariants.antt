-- `Entries::merge` meets its contract: the loop finishes the next of both maps' entries, and the next, until neither has more.
use mathlib.Core.List.{List, flatten}
use Prim.Native.Nat.{◌≤◌, ◌-◌, ◌+◌}
use lib.ListN.{drop}
use Rattle.listlaws.specs.Sift.{sift}
use Rattle.clock.specs.Dots.{dots_of}
use Rattle.entries.specs.declared.Entry.{Entry}
use Rattle.removals.specs.declared.Removal.{Removal}
use Rattle.entries.specs.Model.{entries_of}
use Rattle.removals.specs.Model.{waiting_of}
use Rattle.entries.specs.Entries.{stays, run, weave_entries}
use Rattle.entries.proofs.Finishing.{Going}
use Rattle.entries.proofs.Entries.merge.Given as goal

-- what becomes of each
abbrev pub left : List Removal → List Removal → Entry → Entry
left ours theirs e = run ours (run theirs e)

-- what is finished of both lists
abbrev pub finished : List Removal → List Removal → List (List Entry) → List Entry
finished ours theirs w = sift stays (left ours theirs) (flatten w)

abbrev pub invariant-loop-i : goal.invariant-loop-i
invariant-loop-i l =
    (l.i ≤ l.n) × (l.j ≤ l.m) × (l.out.count ≤ l.i + l.j)
    × Going (finished (waiting_of l.ours) (waiting_of l.theirs)
    (weave_entries (dots_of l.mine) (dots_of l.yours) (entries_of l.self) (entries_of l.other)))
    (finished (waiting_of l.ours) (waiting_of l.theirs)
    (weave_entries (dots_of l.mine) (dots_of l.yours) (drop l.i (entries_of l.self)) (drop l.j (entries_of l.other))))
    l.out

abbrev pub decreases-loop-i : goal.decreases-loop-i
decreases-loop-i l = (l.n - l.i) + (l.m - l.j)
