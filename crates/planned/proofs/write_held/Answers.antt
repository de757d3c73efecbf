-- `write_held` meets its contract: from the image that it names.
use Rattle.planned.proofs.Lefts.{asks-second, asks-first, wrote-second, wrote-first}
use Rattle.planned.proofs.write_held.Goals as goal

pub write-requires : goal.write-requires
write-requires c = asks-second _ _ _ _ _ c.if-x.true c.requires

pub returns-then-x : goal.returns-then-x
returns-then-x c =
    let a = c.args in
    wrote-second a.s.now a.t.now a.x a.index c.if-x.true c.write.ensures

pub write-requires-2 : goal.write-requires-2
write-requires-2 c = asks-first _ _ _ _ _ c.if-x.false c.requires

pub returns : goal.returns
returns c =
    let a = c.args in
    wrote-first a.s.now a.t.now a.x a.index c.if-x.false c.write-2.ensures
