-- `renewed` meets its contract.
use mathlib.Core.Path.{refl}
use native.Mathlib.Omega.{arith}
use borrow.Author.Tests.{lt-ltb, le-ltb}
use Rattle.salvage.proofs.renewed.Goals as goal

pub returns-then-mark-lt-CHANGED : goal.returns-then-mark-lt-CHANGED
returns-then-mark-lt-CHANGED c = rw (lt-ltb c.args.mark 8 c.if-mark-lt-CHANGED.true) refl

pub returns : goal.returns
returns c = rw (le-ltb c.args.mark 8 (omega (arith, c.if-mark-lt-CHANGED.false))) refl
