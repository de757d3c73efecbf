-- `Keys::trail` meets its contract: the loop adds the rest, one key after the other.
use mathlib.Core.Path.{◌≡◌}
use mathlib.Core.List.{List, ◌++◌}
use Prim.Native.Nat.{ℕ}
use Rattle.std.specs.Prelude.{Some}
use Rattle.listlaws.proofs.SliceTrailing.{Trailing}
use Rattle.removals.specs.Counted.{united_as}
use Rattle.removals.proofs.Keys.trail.Given as goal

abbrev pub invariant-loop-k : goal.invariant-loop-k
invariant-loop-k v =
    (l : List ℕ) → Some v.initial.out ≡ united_as l → Trailing united_as (λ k. k) (l ++ v.rest) v.rest v.k-index (Some v.out)
