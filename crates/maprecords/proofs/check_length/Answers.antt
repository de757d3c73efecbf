-- `check_length` meets its contract: by cases.
use borrow.Author.Tests.{lt-ltb, le-ltb, eq-eqb, ne_eqb}
use Rattle.maprecords.proofs.check_length.Goals as goal

pub returns-then-len-gt-MAP_LONGEST : goal.returns-then-len-gt-MAP_LONGEST
returns-then-len-gt-MAP_LONGEST c = rw (lt-ltb _ _ c.if-len-gt-MAP_LONGEST.true)

pub returns-then-len-ne0 : goal.returns-then-len-ne0
returns-then-len-ne0 c = rw (le-ltb _ _ c.if-len-gt-MAP_LONGEST.false, ne_eqb _ _ c.if-len-ne0.true)

pub returns : goal.returns
returns c = rw (le-ltb _ _ c.if-len-gt-MAP_LONGEST.false, eq-eqb _ _ c.if-len-ne0.false)
