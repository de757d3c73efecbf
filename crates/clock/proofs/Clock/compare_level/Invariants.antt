-- `Clock::compare_level` meets its contract: the walk over both clocks meets the same actor at each place.
use mathlib.Core.Path.{◌≡◌}
use mathlib.Core.Bool.{true}
use Prim.Native.Nat.{ℕ}
use lib.ListN.{drop}
use Rattle.listlaws.specs.Rise.{alike}
use Rattle.clock.specs.Dots.{dots_of}
use Rattle.clock.proofs.SliceWalks.{Covering}
use Rattle.clock.proofs.Clock.compare_level.Given as goal

abbrev pub invariant-loop-x : goal.invariant-loop-x
invariant-loop-x l =
    let xs = dots_of l.fn.self in
    let ys = dots_of l.fn.other in
    (i : ℕ) × (l.x-iterator.a.rest.now ≡ drop i xs) × (l.x-iterator.b.rest.now ≡ drop i ys)
    × Covering xs i ys i l.over × Covering ys i xs i l.under
    × ((low : ℕ) × (alike (λ d. d.actor) low (drop i xs) (drop i ys) ≡ true))
