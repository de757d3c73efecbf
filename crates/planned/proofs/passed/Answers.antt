-- `passed` meets its contract: one more, or not.
use native.Mathlib.Omega.{arith}
use Rattle.planned.proofs.passed.Goals as goal

pub returns-then-turn : goal.returns-then-turn
returns-then-turn c = rw c.if-turn.true

pub returns-else-turn : goal.returns-else-turn
returns-else-turn c = rw c.if-turn.false (omega arith)
