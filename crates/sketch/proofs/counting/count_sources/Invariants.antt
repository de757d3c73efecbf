-- `count_sources` meets its contract: the loop adds up what each stands for.
use mathlib.Core.Path.{◌≡◌}
use mathlib.Core.List.{List}
use Prim.Native.Nat.{ℕ, ◌+◌, ◌*◌, ◌≤◌}
use lib.ListN.{drop}
use Rattle.limits.specs.Limits.{dot_limit}
use Rattle.listlaws.specs.Fold.{total_of}
use Rattle.sketch.specs.Drawn.{source_size, Ready}
use Rattle.sketch.proofs.counting.count_sources.Given as goal

abbrev pub invariant-loop-x : goal.invariant-loop-x
invariant-loop-x l = (l.total ≤ l.x-index * (1 + dot_limit))
    × ((s t : List ℕ) → Ready s t l.fn.e → l.total + total_of source_size (drop l.x-index l.x-items) ≡ total_of source_size l.x-items)
