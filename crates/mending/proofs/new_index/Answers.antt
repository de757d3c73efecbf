-- `new_index` meets its contract, kind by kind.
use mathlib.Core.Path.{refl}
use native.Mathlib.Omega.{arith}
use Rattle.mending.specs.Tables.{fourth_of}
use Rattle.mending.proofs.Changing.{value-small, waits-known, index-small}
use Rattle.mending.proofs.new_index.Goals as goal

pub returns-then-r : goal.returns-then-r
returns-then-r c =
    let a = c.args in
    let p = c.requires in
    let k = fourth_of a.marks.now a.image.now in
    let e = c.values_below.ensures.0 in
    (rw c.if-r.true e, omega (arith, e, value-small k p.2 a.r p.4 c.if-r.true))

pub bounds-ranks-r : goal.bounds-ranks-r
bounds-ranks-r c = omega (
  arith,
  c.struct_known-then-r-2-1.given,
  c.requires.3.long,
)

pub returns-then-r-2 : goal.returns-then-r-2
returns-then-r-2 c =
    let a = c.args in
    let p = c.requires in
    let k = fourth_of a.marks.now a.image.now in
    let m = waits-known k p.2 a.r p.4 c.if-r-2.true in
    let e = p.3.each a.r.index m in (
      rw (c.if-r.false, c.if-r-2.true) e,
      omega (
        arith,
        e,
        index-small k p.2
            a.r.index m,
      ),
    )

pub returns : goal.returns
returns c = (rw (c.if-r.false, c.if-r-2.false) refl, omega (arith, c.struct_known-5-1.given))
