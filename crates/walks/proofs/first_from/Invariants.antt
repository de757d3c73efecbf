-- `first_from` meets its contract: the loop follows the definition.
use Prim.Native.Nat.{ℕ, ◌≤◌, ◌-◌}
use Rattle.walks.specs.Walk.{Splits}
use Rattle.walks.proofs.first_from.Given as goal

abbrev pub invariant-loop-low : goal.invariant-loop-low
invariant-loop-low l = ((l.from ≤ l.low) × ((l.low ≤ l.high) × (l.high ≤ l.end)))
    × ((at : ℕ) → Splits l.s l.field l.bound l.from l.end at → (l.low ≤ at) × (at ≤ l.high))

abbrev pub decreases-loop-low : goal.decreases-loop-low
decreases-loop-low l = l.high - l.low
