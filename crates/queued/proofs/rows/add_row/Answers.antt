-- `add_row` meets its contract: a mark a turn.
use mathlib.Core.Path.{refl}
use lib.ListN.{length-set}
use native.Mathlib.Omega.{arith}
use Rattle.queued.proofs.Counting.{add_start, add-not, add-one-more}
use borrow.Author.Rules.{rules}
use Rattle.queued.proofs.rows.add_row.Goals.{then-listed, else-listed}
use Rattle.queued.proofs.rows.add_row.Goals as goal

pub loop-k-init : goal.loop-k-init
loop-k-init c = (search rules, add_start)

pub loop-k-preserved : goal.loop-k-preserved
loop-k-preserved c =
    let g = c.loop-k.invariant in
    elim c.if-listed.branch [
      | then-listed z ↦ rw z.out-is (simp length-set g.0, add-one-more g.1 z.if-listed.true (omega (arith, g.0)) refl)
      | else-listed z ↦ rw z.out-is (g.0, add-not g.1 z.if-listed.false)
    ]

pub returns : goal.returns
returns c = λ p h. c.loop-k.invariant.1.done p (omega arith)
