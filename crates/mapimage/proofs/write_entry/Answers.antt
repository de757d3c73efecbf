-- `write_entry` meets its contract.
use lib.ListN.{length-map}
use Rattle.clock.specs.Dots.{dots_of}
use Rattle.clockimage.specs.Image.{dot_record}
use borrow.Author.Tests.{eq-eqb, ne_eqb}
use native.Mathlib.Omega.{arith}
use Rattle.mapimage.proofs.write_entry.Goals as goal

pub write_dots-requires : goal.write_dots-requires
write_dots-requires c =
    let a = c.args in
    let h = rw (eq-eqb _ _ c.if-kind-eq-ENTRY_DOT.true) at c.requires in
    omega (arith, length-map (dots_of a.e.clock) (dot_record 2 0 a.e.key))

pub returns-then-kind-eq-ENTRY_DOT : goal.returns-then-kind-eq-ENTRY_DOT
returns-then-kind-eq-ENTRY_DOT c = rw (eq-eqb _ _ c.if-kind-eq-ENTRY_DOT.true) c.write_dots.ensures

pub write_values-requires : goal.write_values-requires
write_values-requires c = rw (ne_eqb _ _ c.if-kind-eq-ENTRY_DOT.false) at c.requires

pub returns : goal.returns
returns c = rw (ne_eqb _ _ c.if-kind-eq-ENTRY_DOT.false) c.write_values.ensures
