-- `there` meets its contract: what stands at its place is it, or is behind it.
use Rattle.planned.proofs.Lefts.{told-before, lined-places}
use Rattle.planned.proofs.Seats.{there-told, not_there}
use native.Mathlib.Omega.{arith}
use Rattle.planned.proofs.seating.there.Goals as goal

pub before-requires : goal.before-requires
before-requires c =
    let t = c.before.before in
    let p = t.requires in
    let e = lined-places p.0.1 t.places-n.ensures in
    let k = c.if-k-n.true in
    (p.1.1.placed, (p.0.1.each t.args.k (omega arith)).placed)

pub returns-then-k-n : goal.returns-then-k-n
returns-then-k-n c =
    let g = c.places-n.ensures in
    let k = c.if-k-n.true in
    λ l d h x z. let e = lined-places h g in there-told l d _ z (omega arith)
    (told-before x (h.each c.args.k (omega arith)) c.before-then-k-n.ensures)

pub returns : goal.returns
returns c =
    let g = c.places-n.ensures in
    let k = c.if-k-n.false in
    λ l d h x z. let e = lined-places h g in not_there l d _ z (omega arith)
