-- `count_operations` meets its contract: what is counted and what is left are all.
use mathlib.Core.Path.{◌≡◌, ap, ◌∙◌}
use mathlib.Core.List.{[]}
use native.Mathlib.Omega.{arith}
use borrow.Author.Rules.{rules}
use lib.ListN.{length, drop}
use Rattle.listlaws.proofs.Rests.{drop-end}
use Rattle.promises.specs.CatchUp.{operations_of}
use Rattle.promises.proofs.Cuts.{cut-nothing}
use Rattle.operations.proofs.count_operations.Goals as goal

pub loop-at-init : goal.loop-at-init
loop-at-init c = (omega arith, (omega arith, omega arith))

pub operation_end-at-requires : goal.operation_end-at-requires
operation_end-at-requires c = search rules

pub overflow_add-count : goal.overflow_add-count
overflow_add-count c = omega arith

pub loop-at-smaller : goal.loop-at-smaller
loop-at-smaller c = omega (arith, c.operation_end-at.ensures.past, c.operation_end-at.ensures.within)

pub loop-at-preserved : goal.loop-at-preserved
loop-at-preserved c =
    let e = c.operation_end-at.ensures in
    (e.within, (omega (arith, e.past), omega (arith, ap length e.cut)))

pub returns : goal.returns
returns c =
    let list = c.args.list.now in
    let e : operations_of (drop c.loop-at.at list) ≡ []
    = ap operations_of (drop-end list c.loop-at.at (omega arith)) ∙ cut-nothing in
    omega (arith, ap length e)
