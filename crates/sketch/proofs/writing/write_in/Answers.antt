-- `write_in` meets its contract.
use borrow.Author.Tests.{eq-eqb, ne_eqb}
use native.Mathlib.Omega.{arith}
use Rattle.sketch.proofs.Sources.{run_short, dots-room, dots-written, value_written}
use Rattle.sketch.proofs.writing.write_in.Goals as goal

pub write_record-requires : goal.write_record-requires
write_record-requires c =
    let p = c.requires in
    let h = rw (eq-eqb _ _ c.if-kind-eq-VALUE.true) at p.1 in omega arith

pub returns-then-kind-eq-VALUE : goal.returns-then-kind-eq-VALUE
returns-then-kind-eq-VALUE c =
    rw (eq-eqb _ _ c.if-kind-eq-VALUE.true)
    (value_written _ c.args.x _ _ _
    c.read_record-held.ensures c.write_record.ensures)

pub write_picked-requires : goal.write_picked-requires
write_picked-requires c =
    let t = c.before.before.before.before.before.before.before.before in (
      run_short t.requires.0,
      dots-room _ t.args.x t.args.key t.args.index _ _
          (rw (ne_eqb _ _ c.if-kind-eq-VALUE.false) at t.requires.1),
    )

pub returns : goal.returns
returns c =
    let t = c.before.before.before.before.before.before.before.before.before.before.before in
    rw (ne_eqb _ _ c.if-kind-eq-VALUE.false)
    (dots-written _ t.args.x t.args.key t.args.index c.write_picked.ensures)
