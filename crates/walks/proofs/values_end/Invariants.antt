-- `values_end` meets its contract: the loop follows the definition.
use Prim.Native.Nat.{◌+◌, ◌≤◌}
use Rattle.walks.proofs.Loops.{Valuing}
use Rattle.walks.proofs.values_end.Given as goal

abbrev pub invariant-loop-i : goal.invariant-loop-i
invariant-loop-i l = (l.dots + l.p ≤ l.last) × Valuing l.key l.s l.at l.end l.dots l.last l.i l.p
