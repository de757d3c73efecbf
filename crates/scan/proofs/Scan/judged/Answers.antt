-- `Scan::judged` meets its contract.
use Rattle.scan.proofs.Scan.judged.Goals as goal

pub returns-then-within : goal.returns-then-within
returns-then-within c = rw (← c.within.ensures, c.if-within.true)

pub returns : goal.returns
returns c = rw (← c.within.ensures, c.if-within.false)
