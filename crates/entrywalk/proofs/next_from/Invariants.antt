-- `next_from` meets its contract: what is passed lies below, and the walk ends at the first place that does not.
use Prim.Native.Nat.{ℕ, ◌≤◌}
use Rattle.walks.specs.Walk.{Splits}
use Rattle.entrywalk.proofs.next_from.Given as goal

abbrev pub invariant-loop-i : goal.invariant-loop-i
invariant-loop-i l = ((at : ℕ) → Splits l.s l.field l.bound l.from l.end at → l.i ≤ at)
