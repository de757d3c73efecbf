-- `seek` meets its contract: the loop passes the dots of earlier actors.
use mathlib.Core.Path.{◌≡◌}
use Prim.Native.Nat.{◌-◌}
use lib.ListN.{drop}
use Rattle.clock.specs.Dots.{dots_of}
use Rattle.keeping.specs.Keeping.{sought}
use Rattle.keeping.proofs.seek.Given as goal

abbrev pub invariant-loop-i : goal.invariant-loop-i
invariant-loop-i l = sought l.actor l.from (drop l.from (dots_of l.clock)) ≡ sought l.actor l.i (drop l.i (dots_of l.clock))

abbrev pub decreases-loop-i : goal.decreases-loop-i
decreases-loop-i l = l.n - l.i
