-- `Clock::is_lawful` meets its contract: each dot stands from the place behind the last actor on.
use mathlib.Core.Path.{◌≡◌}
use mathlib.Core.Bool.{Bool}
use mathlib.Core.List.{List}
use Prim.Native.Nat.{ℕ}
use lib.ListN.{drop}
use lib.Dec.{ltb}
use Rattle.listlaws.specs.Rise.{rising}
use Rattle.clock.specs.declared.Dot.{Dot}
use Rattle.clock.proofs.Clock.is_lawful.Given as goal

abbrev pub from : ℕ → List Dot → Bool
from low l = rising (λ d. d.actor) (λ d. ltb 0 d.counter) low l

abbrev pub invariant-loop-d : goal.invariant-loop-d
invariant-loop-d l = from 0 l.d-items ≡ from l.low (drop l.d-index l.d-items)
