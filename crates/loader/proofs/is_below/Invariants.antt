-- `is_below` meets its contract: the loop looks for a value whose clock is above.
use mathlib.Core.Bool.{true, false}
use mathlib.Core.List.{List}
use lib.ListN.{get_or}
use Rattle.listlaws.proofs.SlicePassing.{Passing}
use Rattle.register.specs.declared.Value.{Value}
use Rattle.register.specs.Values.{no_value, yields}
use Rattle.comparing.specs.Registers.{RunsOf}
use Rattle.loader.proofs.is_below.Given as goal

abbrev pub invariant-loop-j : goal.invariant-loop-j
invariant-loop-j v =
    ((l : List Value) → RunsOf v.map v.starts v.n l → Passing (yields false (get_or l v.k no_value)) (λ w. true) false l v.j)
