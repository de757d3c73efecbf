-- `key_span` meets its contract: the two searches find the records of the key's entry.
use native.Mathlib.Omega.{arith}
use Rattle.keyed.proofs.Entry.{key-part}
use Rattle.keyed.proofs.key_span.Goals as goal

pub returns : goal.returns
returns c =
    let a = c.first_from-first.ensures in
    let b = c.first_from-behind.ensures in
    let z = c.args in
    (omega arith, key-part z.s.now z.key z.from z.end _ _ (omega arith) (omega arith) a.1.1 b.1.1)
