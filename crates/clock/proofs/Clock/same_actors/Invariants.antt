-- `Clock::same_actors` meets its contract: at each place both have the same actor, behind the last one.
use mathlib.Core.Path.{◌≡◌}
use mathlib.Core.Bool.{Bool}
use mathlib.Core.List.{List}
use Prim.Native.Nat.{ℕ}
use lib.ListN.{length}
use Rattle.listlaws.specs.Rise.{alike}
use Rattle.clock.specs.declared.Dot.{Dot}
use Rattle.clock.specs.Dots.{dots_of}
use Rattle.clock.proofs.Clock.same_actors.Given as goal

abbrev pub from : ℕ → List Dot → List Dot → Bool
from low a b = alike (λ d. d.actor) low a b

abbrev pub invariant-loop-x : goal.invariant-loop-x
invariant-loop-x l =
    let xs = l.x-iterator.a.rest.now in
    let ys = l.x-iterator.b.rest.now in
    (length xs ≡ length ys) × (from 0 (dots_of l.fn.self) (dots_of l.fn.other) ≡ from l.low xs ys)
