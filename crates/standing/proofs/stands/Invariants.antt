-- `stands` meets its contract: the loop takes our values one after the other.
use mathlib.Core.List.{List}
use Rattle.register.specs.declared.Value.{Value}
use Rattle.comparing.specs.Registers.{RunsOf}
use Rattle.standing.proofs.Registers.{Merging}
use Rattle.standing.proofs.stands.Given as goal

abbrev pub invariant-loop-i : goal.invariant-loop-i
invariant-loop-i v =
    ((l k : List Value) → RunsOf v.s v.xs v.n l → RunsOf v.t v.ys v.m k → Merging l k v.i v.ours v.theirs)
