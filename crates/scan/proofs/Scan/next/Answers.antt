-- `Scan::next` meets its contract.
use borrow.Author.Tests.{eq-eqb, ne_eqb}
use Rattle.scan.specs.Stepping.{scan_on}
use Rattle.scan.proofs.Scan.next.Goals as goal

pub returns-then-self-eq1 : goal.returns-then-self-eq1
unfolding scan_on
returns-then-self-eq1 c = rw (eq-eqb _ _ c.if-self-eq1.true)

pub returns-then-follows : goal.returns-then-follows
unfolding scan_on
returns-then-follows c = rw (ne_eqb _ _ c.if-self-eq1.false, ← c.follows.ensures, c.if-follows.true)
    c.counted.ensures

pub returns : goal.returns
unfolding scan_on
returns c = rw (ne_eqb _ _ c.if-self-eq1.false, ← c.follows.ensures, c.if-follows.false)
