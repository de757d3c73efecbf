-- `put_stands` meets its contract: the loop compares one value after the other with the put.
use mathlib.Core.Path.{◌≡◌}
use mathlib.Core.List.{List}
use Rattle.clock.specs.Dots.{dots_of}
use Rattle.register.specs.declared.Value.{Value}
use Rattle.runs.specs.Run.{run_dots}
use Rattle.comparing.specs.Registers.{RunsOf}
use Rattle.standing.proofs.Registers.{Putting}
use Rattle.standing.proofs.put_stands.Given as goal

abbrev pub invariant-loop-i : goal.invariant-loop-i
invariant-loop-i live =
    ((l : List Value) (v : Value) → RunsOf live.s live.starts live.n l → run_dots live.put ≡ dots_of v.clock
    → Putting l v live.i live.remain live.yields)
