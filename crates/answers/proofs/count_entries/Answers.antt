-- `count_entries` meets its contract: the loop adds up what each has.
use mathlib.Core.Path.{◌≡◌, ap, ◌∙◌}
use borrow.Author.Rules.{rules}
use lib.ListN.{length, length-take}
use Rattle.limits.specs.Limits.{entry_limit}
use Rattle.listlaws.proofs.Pads.{unmapped}
use Rattle.entries.proofs.Packs.{none_read}
use Rattle.answers.specs.Sizes.{entry_size}
use Rattle.answers.proofs.Totals.{total-step, total-end}
use native.Mathlib.Omega.{arith}
use Rattle.answers.proofs.count_entries.Goals as goal

pub loop-e-init : goal.loop-e-init
loop-e-init c = (omega arith, omega arith)

pub loop-e-preserved : goal.loop-e-preserved
loop-e-preserved c = let e = total-step entry_size _ _ none_read c.loop-e-test.true in (omega arith, omega arith)

pub returns : goal.returns
returns c =
    let items = c.as_slice-e-items in
    let e = total-end entry_size items.result.now c.loop-e.e-index (omega arith) in
    let room : length c.args.entries.items ≡ entry_limit = search (rules, unmapped) in
    let n = ap length items.ensures ∙ length-take c.args.entries.len c.args.entries.items in
    rw (← items.ensures) (omega arith, omega arith)
