-- `cut_all` meets its contract: a removal a turn comes to its place.
use mathlib.Core.List.{map}
use lib.ListN.{length-map}
use Rattle.clock.specs.Dots.{dots_of}
use Rattle.removals.specs.Model.{under_of}
use Rattle.removals.specs.Waits.{cut_removal}
use Rattle.planned.proofs.Lefts.{queue-places}
use Rattle.planned.proofs.Gathering.{left-some, left-none, gathers-on, gathers-not, gathers-end}
use native.Mathlib.Omega.{arith}
use Rattle.planned.proofs.seating.cut_all.Goals.{then-count-gt0, else-count-gt0}
use Rattle.planned.proofs.seating.cut_all.Goals as goal

pub loop-k-preserved : goal.loop-k-preserved
loop-k-preserved c =
    let g = c.loop-k.invariant in
    let cut = cut_removal (dots_of c.args.by) in
    elim c.if-count-gt0.branch [
      | then-count-gt0 z ↦ rw z.all-is (
        omega (arith, z.add-all.ensures.0, g.0),
        λ w q.
            let e = queue-places q c.places-k-end.ensures in
            let x = c.cut_at-x.ensures w q (omega arith) in
            let k = g.1 w q in
            gathers-on k (omega (arith, length-map w cut, length-map (map cut w) under_of))
            (left-some x (c.count.ensures.1 _ x.placed) z.if-count-gt0.true) (z.add-all.ensures.1 k.done _ k.lined x),
      )
      | else-count-gt0 z ↦ rw z.all-is (
        omega (arith, g.0),
        λ w q.
            let e = queue-places q c.places-k-end.ensures in
            let x = c.cut_at-x.ensures w q (omega arith) in
            gathers-not (g.1 w q) (omega (arith, length-map w cut, length-map (map cut w) under_of))
            (left-none x (c.count.ensures.1 _ x.placed) (omega (arith, z.if-count-gt0.false))),
      )
    ]

pub returns : goal.returns
returns c = λ w q.
    let e = queue-places q c.places-k-end.ensures in
    let cut = cut_removal (dots_of c.args.by) in
    gathers-end (c.loop-k.invariant.1 w q) (omega (arith, length-map w cut, length-map (map cut w) under_of))
