-- `clock_before` meets its contract: the loop passes equal dots.
use mathlib.Core.Path.{◌≡◌}
use Prim.Native.Nat.{◌+◌}
use lib.ListN.{length}
use Rattle.removals.specs.Waits.{clock_before}
use Rattle.removals.proofs.clock_before.Given as goal

abbrev pub invariant-loop-x : goal.invariant-loop-x
invariant-loop-x l =
    let a = l.x-iterator.a.rest.now in
    let b = l.x-iterator.b.rest.now in
    (length l.xs + length b ≡ length l.ys + length a) × (clock_before l.xs l.ys ≡ clock_before a b)
