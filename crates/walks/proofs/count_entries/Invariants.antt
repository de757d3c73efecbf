-- `count_entries` meets its contract: the loop follows the definition.
use Prim.Native.Nat.{◌*◌, ◌≤◌, ◌-◌}
use lib.ListN.{length}
use Rattle.clock.specs.Dots.{dots_of}
use Rattle.limits.specs.Limits.{entry_limit}
use Rattle.walks.proofs.Loops.{Entering}
use Rattle.walks.proofs.count_entries.Given as goal

abbrev pub invariant-loop-own : goal.invariant-loop-own
invariant-loop-own l =
    ((l.own ≤ l.third) × ((l.values ≤ l.fourth) × ((l.dots ≤ l.fifth) × (l.n ≤ entry_limit))))
    × (((l.third * 16 ≤ length l.s) × ((l.fourth * 16 ≤ length l.s) × (l.fifth * 16 ≤ length l.s)))
    × Entering (dots_of l.clock) l.s l.initial.own l.third l.fourth l.fifth l.own l.values l.dots l.n l.low)

abbrev pub decreases-loop-own : goal.decreases-loop-own
decreases-loop-own l = entry_limit - l.n
