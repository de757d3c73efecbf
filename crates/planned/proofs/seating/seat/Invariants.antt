-- `seat` meets its contract: the loop follows the definition.
use mathlib.Core.List.{List}
use Rattle.clock.specs.declared.Dot.{Dot}
use Rattle.planned.specs.Left.{Left, Lined}
use Rattle.planned.proofs.Seats.{Seating}
use Rattle.planned.proofs.seating.seat.Given as goal

abbrev pub invariant-loop-i : goal.invariant-loop-i
invariant-loop-i v = (l : List (List Dot)) (d : List Dot) → Lined v.s v.all l → Left v.s v.x d → Seating d l v.i
