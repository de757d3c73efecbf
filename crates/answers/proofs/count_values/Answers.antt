-- `count_values` meets its contract: the loop adds up what each has.
use mathlib.Core.Path.{◌≡◌, ap, ◌∙◌}
use borrow.Author.Rules.{rules}
use lib.ListN.{length, length-take}
use Rattle.limits.specs.Limits.{value_limit}
use Rattle.listlaws.proofs.Pads.{unmapped}
use Rattle.register.proofs.Packs.{none_read}
use Rattle.answers.specs.Sizes.{value_size}
use Rattle.answers.proofs.Totals.{total-step, total-end}
use native.Mathlib.Omega.{arith}
use Rattle.answers.proofs.count_values.Goals as goal

pub loop-v-init : goal.loop-v-init
loop-v-init c = (omega arith, omega arith)

pub loop-v-preserved : goal.loop-v-preserved
loop-v-preserved c = let e = total-step value_size _ _ none_read c.loop-v-test.true in (omega arith, omega arith)

pub returns : goal.returns
returns c =
    let items = c.as_slice-v-items in
    let e = total-end value_size items.result.now c.loop-v.v-index (omega arith) in
    let room : length c.args.register.values ≡ value_limit = search (rules, unmapped) in
    let n = ap length items.ensures ∙ length-take c.args.register.len c.args.register.values in
    rw (← items.ensures) (omega arith, omega arith)
