-- `count_waiting` meets its contract: the loop adds up what each has.
use mathlib.Core.Path.{◌≡◌, ap, ◌∙◌}
use borrow.Author.Rules.{rules}
use lib.ListN.{length, length-take}
use Rattle.limits.specs.Limits.{waiting_limit}
use Rattle.listlaws.proofs.Pads.{unmapped}
use Rattle.removals.proofs.Packs.{no_removal_read}
use Rattle.answers.specs.Sizes.{removal_size}
use Rattle.answers.proofs.Totals.{total-step, total-end}
use native.Mathlib.Omega.{arith}
use Rattle.answers.proofs.count_waiting.Goals as goal

pub loop-w-init : goal.loop-w-init
loop-w-init c = (omega arith, omega arith)

pub loop-w-preserved : goal.loop-w-preserved
loop-w-preserved c = let e = total-step removal_size _ _ no_removal_read c.loop-w-test.true in (omega arith, omega arith)

pub returns : goal.returns
returns c =
    let items = c.as_slice-w-items in
    let e = total-end removal_size items.result.now c.loop-w.w-index (omega arith) in
    let room : length c.args.waiting.items ≡ waiting_limit = search (rules, unmapped) in
    let n = ap length items.ensures ∙ length-take c.args.waiting.len c.args.waiting.items in
    rw (← items.ensures) (omega arith, (omega arith, omega arith))
