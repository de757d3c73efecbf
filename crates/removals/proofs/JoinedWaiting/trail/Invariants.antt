-- `JoinedWaiting::trail` meets its contract: the loop adds the rest, one removal after the other.
use mathlib.Core.Path.{◌≡◌}
use mathlib.Core.List.{List, ◌++◌}
use Prim.Native.Nat.{◌+◌}
use Rattle.listlaws.specs.Order.{◌∈◌}
use Rattle.listlaws.proofs.SliceTrailing.{Trailing}
use Rattle.removals.specs.declared.Removal.{Removal}
use Rattle.removals.specs.Counted.{KeysLaid, Numbered, joined_as}
use Rattle.removals.proofs.JoinedWaiting.trail.Given as goal

abbrev pub invariant-loop-r : goal.invariant-loop-r
invariant-loop-r v =
    Numbered v.out (v.initial.out.count + v.r-index)
    × ((l : List Removal) → ((r : Removal) → r ∈ v.rest → KeysLaid r) → v.initial.out ≡ joined_as l
    → Trailing joined_as (λ r. r) (l ++ v.rest) v.rest v.r-index v.out)
