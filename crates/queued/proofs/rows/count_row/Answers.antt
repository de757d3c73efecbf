-- `count_row` meets its contract: a mark a turn.
use mathlib.Core.Path.{◌≡◌, ap}
use lib.ListN.{length}
use native.Mathlib.Omega.{arith}
use Rattle.limits.specs.Limits.{waiting_limit}
use Rattle.queued.proofs.Rowing.{row-yes, row-no, row-end}
use borrow.Author.Rules.{rules}
use Rattle.queued.proofs.rows.count_row.Goals.{then-listed, else-listed}
use Rattle.queued.proofs.rows.count_row.Goals as goal

pub loop-listed-init : goal.loop-listed-init
loop-listed-init c = (omega arith, λ key. omega arith)

pub loop-listed-preserved : goal.loop-listed-preserved
loop-listed-preserved c =
    let u = c.args.under in
    let i = c.loop-listed.listed-index in
    let n : length u ≡ waiting_limit = search rules in
    let g = c.loop-listed.invariant in
    elim c.if-listed.branch [
      | then-listed z ↦ rw z.total-is (
        omega (arith, g.0),
        λ key. omega (arith, g.1 key, ap length (row-yes key u i (omega (arith, n)) z.if-listed.true)),
      )
      | else-listed z ↦ rw z.total-is (
        omega (arith, g.0),
        λ key. omega (arith, g.1 key, ap length (row-no key u i (omega (arith, n)) z.if-listed.false)),
      )
    ]

pub returns : goal.returns
returns c =
    let u = c.args.under in
    let n : length u ≡ waiting_limit = search rules in
    let g = c.loop-listed.invariant in
    (omega arith, λ key. omega (arith, g.1 key, ap length (row-end key u c.loop-listed.listed-index (omega (arith, n)))))
