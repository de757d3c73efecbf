-- `lesser` meets its contract.
use mathlib.Core.Path.{refl}
use Rattle.salvage.proofs.lesser.Goals as goal

pub returns-then-before : goal.returns-then-before
returns-then-before c = rw (← c.before-2.ensures, ← c.before-3.ensures, c.if-before.true) refl

pub returns-else-before : goal.returns-else-before
returns-else-before c = rw (← c.before-2.ensures, ← c.before-3.ensures, c.if-before.false) refl
