-- `Clock::is_empty` meets its contract, by that of `size`.
use mathlib.Core.Path.{ap}
use lib.Dec.{eqb}
use Rattle.clock.specs.Dots.{is_empty}
use Rattle.clock.proofs.Clock.is_empty.Goals as goal

pub returns : goal.returns
unfolding is_empty
returns c = ap (λ k. eqb k 0) c.size.ensures.0
