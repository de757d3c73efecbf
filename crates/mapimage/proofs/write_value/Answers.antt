-- `write_value` meets its contract.
use lib.ListN.{length-map}
use Rattle.clock.specs.Dots.{dots_of}
use Rattle.clockimage.specs.Image.{dot_record}
use borrow.Author.Tests.{eq-eqb, ne_eqb}
use Rattle.records.proofs.Writing.{wrote_one}
use native.Mathlib.Omega.{arith}
use Rattle.mapimage.proofs.write_value.Goals as goal

pub write_record-requires : goal.write_record-requires
write_record-requires c = let h = rw (eq-eqb _ _ c.if-kind-eq-VALUE.true) at c.requires in omega arith

pub returns-then-kind-eq-VALUE : goal.returns-then-kind-eq-VALUE
returns-then-kind-eq-VALUE c = rw (eq-eqb _ _ c.if-kind-eq-VALUE.true) (wrote_one _ _ _ _ _ c.write_record.ensures)

pub write_dots-requires : goal.write_dots-requires
write_dots-requires c =
    let a = c.args in
    let h = rw (ne_eqb _ _ c.if-kind-eq-VALUE.false) at c.requires in
    omega (arith, length-map (dots_of a.v.clock) (dot_record 4 a.index a.key))

pub returns : goal.returns
returns c = rw (ne_eqb _ _ c.if-kind-eq-VALUE.false) c.write_dots.ensures
