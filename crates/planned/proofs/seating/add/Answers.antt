-- `add` meets its contract: it is there, or comes to its place.
use native.Mathlib.Omega.{arith}
use Rattle.planned.proofs.seating.add.Goals as goal

pub returns-then-there : goal.returns-then-there
returns-then-there c =
    let t = c.if-there.true in (
      omega arith,
      λ l d h x. let e = c.there.ensures l d h x (c.seat-k.ensures.1 l d h x) in rw (rw t at e) h,
    )

pub returns : goal.returns
returns c =
    let t = c.if-there.false in (
      omega (arith, c.insert.ensures.0),
      λ l d h x. let e = c.there.ensures l d h x (c.seat-k.ensures.1 l d h x) in
          rw (rw t at e) (c.insert.ensures.1 _ l d h x),
    )
