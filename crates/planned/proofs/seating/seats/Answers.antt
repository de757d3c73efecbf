-- `seats` meets its contract: a removal's place a turn.
use mathlib.Core.List.{map}
use lib.ListN.{length-map, length-set}
use Rattle.clock.specs.Dots.{dots_of}
use Rattle.removals.specs.Model.{under_of}
use Rattle.removals.specs.Waits.{cut_removal}
use Rattle.planned.proofs.Lefts.{queue-places}
use Rattle.planned.proofs.Gathering.{left-some, left-none}
use Rattle.planned.proofs.Seats.{seated-on, seated-not, seated-end}
use native.Mathlib.Omega.{arith}
use Rattle.planned.proofs.seating.seats.Goals.{then-count-gt0, else-count-gt0}
use Rattle.planned.proofs.seating.seats.Goals as goal

pub loop-k-preserved : goal.loop-k-preserved
loop-k-preserved c =
    let g = c.loop-k.invariant in
    elim c.if-count-gt0.branch [
      | then-count-gt0 z ↦ rw z.out-is (
        simp length-set g.0,
        λ w l q h.
            let e = queue-places q c.places-k-end.ensures in
            let x = c.cut_at-x.ensures w q (omega arith) in
            seated-on (g.1 w l q h) (left-some x (c.count.ensures.1 _ x.placed) z.if-count-gt0.true) (omega (arith, g.0)) (z.seat.ensures.1 l _ h x),
      )
      | else-count-gt0 z ↦ rw z.out-is (
        g.0,
        λ w l q h.
            let e = queue-places q c.places-k-end.ensures in
            let x = c.cut_at-x.ensures w q (omega arith) in
            seated-not (g.1 w l q h) (left-none x (c.count.ensures.1 _ x.placed) (omega (arith, z.if-count-gt0.false))),
      )
    ]

pub returns : goal.returns
returns c = λ w l q h.
    let e = queue-places q c.places-k-end.ensures in
    let cut = cut_removal (dots_of c.args.by) in
    seated-end (c.loop-k.invariant.1 w l q h) (omega (arith, length-map w cut, length-map (map cut w) under_of))
