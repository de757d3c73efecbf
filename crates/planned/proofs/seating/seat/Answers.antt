-- `seat` meets its contract: the loop follows the definition.
use mathlib.Core.Path.{◌≡◌, ap, sym, ◌∙◌}
use mathlib.Core.Bool.{not}
use borrow.Author.Tests.{not-true, not-false}
use Rattle.listlaws.proofs.Pads.{unmapped}
use Rattle.planned.proofs.Lefts.{told-before, lined-places}
use Rattle.planned.proofs.Seats.{seat-start, seat-on, seat-here, seat-end}
use borrow.Author.Rules.{rules}
use native.Mathlib.Omega.{arith}
use Rattle.planned.proofs.seating.seat.Goals as goal

pub loop-i-init : goal.loop-i-init
loop-i-init c = λ l d h k. seat-start

pub bounds-all-i : goal.bounds-all-i
bounds-all-i c = search (rules, unmapped)

pub before-requires : goal.before-requires
before-requires c =
    let p = c.requires in
    let e = lined-places p.0.1 c.places-n.ensures in
    ((p.0.1.each c.loop-i.i (omega arith)).placed, p.1.1.placed)

pub returns-then-not-before : goal.returns-then-not-before
returns-then-not-before c =
    let g = c.places-n.ensures in (
      omega arith,
      λ l d h x.
          let e = lined-places h g in
          seat-here (c.loop-i.invariant l d h x) (omega arith) (sym (told-before (h.each c.loop-i.i (omega arith)) x c.before-in-loop-i.ensures)
          ∙ not-true _ (ap not c.if-not-before.true)),
    )

pub loop-i-preserved : goal.loop-i-preserved
loop-i-preserved c =
    let g = c.places-n.ensures in
    λ l d h x.
    let e = lined-places h g in
    seat-on (c.loop-i.invariant l d h x) (omega arith) (sym (told-before (h.each c.loop-i.i (omega arith)) x c.before-in-loop-i.ensures)
    ∙ not-false _ (ap not c.if-not-before.false))

pub returns : goal.returns
returns c =
    let g = c.places-n.ensures in (
      omega arith,
      λ l d h x.
          let e = lined-places h g in
          let n : c.loop-i.i ≡ c.places-n.result = omega arith in
          sym n ∙ seat-end (c.loop-i.invariant l d h x) (omega arith),
    )
