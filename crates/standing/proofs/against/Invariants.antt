-- `against` meets its contract: the loop compares the run with one value after the other.
use mathlib.Core.Path.{◌≡◌}
use mathlib.Core.List.{List}
use lib.ListN.{length}
use Rattle.clock.specs.Dots.{dots_of}
use Rattle.register.specs.declared.Value.{Value}
use Rattle.limits.specs.Limits.{value_limit}
use Rattle.runs.specs.Run.{run_dots}
use Rattle.comparing.specs.Registers.{RunsOf}
use Rattle.standing.proofs.Standings.{Passed}
use Rattle.standing.proofs.against.Given as goal

abbrev pub invariant-loop-j : goal.invariant-loop-j
invariant-loop-j live =
    (length live.initial.left ≡ value_limit) ×
    ((v : Value) (l : List Value) → run_dots live.run ≡ dots_of v.clock → RunsOf live.s live.starts live.n l
    → Passed v l live.initial.left live.j live.left)
