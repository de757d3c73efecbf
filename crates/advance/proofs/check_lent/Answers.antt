-- `check_lent` meets its contract.
use native.Mathlib.Omega.{arith}
use borrow.Author.Tests.{lt-ltb, le-ltb}
use Rattle.advance.specs.Advancing.{lent_number}
use Rattle.advance.proofs.check_lent.Goals as goal

pub returns-then-clock-gt-DOTS : goal.returns-then-clock-gt-DOTS
unfolding lent_number
returns-then-clock-gt-DOTS c = (rw (lt-ltb _ _ c.if-clock-gt-DOTS.true), omega arith)

pub returns-then-rises : goal.returns-then-rises
unfolding lent_number
returns-then-rises c = (rw (le-ltb _ _ c.if-clock-gt-DOTS.false, ← c.rises.ensures, c.if-rises.true), omega arith)

pub returns-else-rises : goal.returns-else-rises
unfolding lent_number
returns-else-rises c = (rw (le-ltb _ _ c.if-clock-gt-DOTS.false, ← c.rises.ensures, c.if-rises.false), omega arith)
