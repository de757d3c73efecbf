-- `Joined::trail` meets its contract: the loop adds the rest, one dot after the other.
use mathlib.Core.Path.{◌≡◌}
use mathlib.Core.List.{List, ◌++◌}
use Rattle.listlaws.proofs.SliceTrailing.{Trailing}
use Rattle.clock.specs.declared.Dot.{Dot}
use Rattle.clock.specs.Dots.{fitted}
use Rattle.clock.proofs.Joined.trail.Given as goal

abbrev pub invariant-loop-d : goal.invariant-loop-d
invariant-loop-d v = (l : List Dot) → v.initial.out ≡ fitted l → Trailing fitted (λ d. d) (l ++ v.rest) v.rest v.d-index v.out
