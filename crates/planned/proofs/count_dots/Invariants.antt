-- `count_dots` meets its contract: a removal a turn.
use mathlib.Core.Path.{◌≡◌}
use mathlib.Core.List.{List}
use Prim.Native.Nat.{ℕ, ◌+◌, ◌*◌, ◌≤◌}
use lib.ListN.{length, drop}
use Rattle.limits.specs.Limits.{dot_limit}
use Rattle.removals.specs.declared.Removal.{Removal}
use Rattle.mapimage.specs.MapImage.{flat_from, waiting_dots}
use Rattle.planned.specs.Planned.{Plans}
use Rattle.planned.proofs.count_dots.Given as goal

abbrev pub invariant-loop-x : goal.invariant-loop-x
invariant-loop-x l =
    (l.total ≤ l.x-index * dot_limit) × ((s t : List ℕ) (w v result : List Removal) → Plans s t w v result l.fn.p
    → length (flat_from waiting_dots 0 result) ≡ l.total + length (flat_from waiting_dots l.x-index (drop l.x-index result)))
