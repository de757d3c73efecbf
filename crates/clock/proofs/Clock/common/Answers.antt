-- `Clock::common` meets its contract, by that of `sift`.
use Rattle.clock.specs.Dots.{common_dots}
use Rattle.clock.proofs.Clock.common.Goals as goal

pub returns : goal.returns
unfolding common_dots
returns c = c.sift.ensures
