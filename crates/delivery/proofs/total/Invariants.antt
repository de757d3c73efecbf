-- `total` meets its contract: the loop adds up what each gives.
use mathlib.Core.Path.{◌≡◌}
use Prim.Native.Nat.{ℕ, ◌*◌, ◌≤◌, ◌<◌, ◌^◌}
use Rattle.listlaws.specs.Fold.{total_of}
use Rattle.maprecords.specs.Reading.{numbers_below}
use Rattle.delivery.proofs.total.Given as goal

abbrev pub invariant-loop-i : goal.invariant-loop-i
invariant-loop-i g l =
    (l.total ≤ l.i * 2 ^ 16) × ((f : ℕ → ℕ) → ((i r : ℕ) → i < l.n → goal.F-post g l.size i r → r ≡ f i)
    → l.total ≡ total_of f (numbers_below l.i))
