-- `total` meets its contract: the loop adds up what each gives.
use mathlib.Core.Path.{ap, ◌∙◌}
use native.Mathlib.Omega.{arith}
use Rattle.listlaws.specs.Fold.{total_of}
use Rattle.maprecords.specs.Reading.{numbers_below}
use Rattle.delivery.proofs.Sums.{total-none, total-more}
use Rattle.delivery.proofs.total.Goals as goal

pub loop-i-init : goal.loop-i-init
loop-i-init g c = (omega arith, λ f e. total-none f)

pub loop-i-preserved : goal.loop-i-preserved
loop-i-preserved g c =
    let s = c.requires.small c.loop-i.i c.size-total.result c.loop-i-test.true c.size-total.ensures in (
      omega arith,
      λ f e.
          let p = c.loop-i.invariant.1 f e in
          let q = e c.loop-i.i c.size-total.result c.loop-i-test.true c.size-total.ensures in
          omega (arith, total-more f c.loop-i.i),
    )

pub returns : goal.returns
returns g c = λ f e. c.loop-i.invariant.1 f e ∙ ap (λ m. total_of f (numbers_below m)) (omega arith)
