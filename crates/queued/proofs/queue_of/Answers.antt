-- `queue_of` meets its contract: the run of a removal's dots a turn.
use mathlib.Core.Path.{sym}
use lib.ListN.{length-set}
use native.Mathlib.Omega.{arith}
use Rattle.queued.proofs.Taking.{waiting-fits, take-start, take_on, take-end}
use borrow.Author.Rules.{rules}
use Rattle.queued.proofs.queue_of.Goals as goal

pub loop-i-init : goal.loop-i-init
loop-i-init c =
    let p = c.requires.0 in
    let f = waiting-fits p in (
      (p.places.fifth, (f.within, (omega (arith, c.requires.1, f.few), search rules))),
      take-start f p.places.fifth (sym p.sections.fifth),
    )

pub loop-i-preserved : goal.loop-i-preserved
loop-i-preserved c =
    let f = waiting-fits c.requires.0 in
    let g = c.first_from-at.ensures in
    let h = c.requires.1 in
    (simp length-set (omega arith), take_on f c.loop-i.invariant.1 (omega arith) _ g.0 g.1.0 g.1.1 (omega arith))

pub returns : goal.returns
returns c =
    let f = waiting-fits c.requires.0 in
    let h = c.requires.1 in
    take-end f c.loop-i.invariant.1 _ h (omega arith)
