-- `count_dots` meets its contract: the loop adds up what each has.
use mathlib.Core.Path.{◌≡◌, ap}
use Prim.Native.Nat.{◌≤◌}
use lib.ListN.{length, length-take}
use Rattle.listlaws.specs.Fold.{total_of}
use Rattle.listlaws.proofs.SliceRests.{drop-step, drop-end}
use Rattle.entries.proofs.Packs.{none_read}
use Rattle.promises.specs.Deleted.{dots_among}
use native.Mathlib.Omega.{arith}
use borrow.Author.Rules.{rules}
use Rattle.listlaws.proofs.Pads.{unmapped}
use Rattle.byvalue.proofs.counting.count_dots.Goals as goal

pub loop-e-init : goal.loop-e-init
loop-e-init c = (omega arith, omega arith)

pub loop-e-preserved : goal.loop-e-preserved
unfolding total_of
loop-e-preserved c =
    let e = ap dots_among (drop-step _ c.loop-e.e-index none_read c.loop-e-test.true) in
    (omega arith, omega arith)

pub returns : goal.returns
unfolding total_of
returns c =
    let l = c.as_slice-e-items.result.now in
    let good = c.well_formed in
    let room : length c.args.entries.items ≡ 32 = search (rules, unmapped, good) in
    let e = ap dots_among (drop-end l c.loop-e.e-index (omega arith)) in
    let few : length l ≤ 32 = omega (arith, ap length c.as_slice-e-items.ensures, length-take c.args.entries.len c.args.entries.items) in
    rw (← c.as_slice-e-items.ensures) (omega arith, omega arith)
