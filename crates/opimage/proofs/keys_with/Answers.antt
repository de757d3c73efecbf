-- `keys_with` meets its contract.
use Rattle.opimage.proofs.keys_with.Goals as goal

pub push-requires : goal.push-requires
push-requires c = c.requires c.if-more.true

pub returns-then-more : goal.returns-then-more
returns-then-more c l e = rw c.if-more.true (c.push.ensures l e)

pub returns : goal.returns
returns c l e = rw c.if-more.false e
