-- `own_clock` meets its contract: every dot of the run is picked.
use mathlib.Core.Path.{ap, ◌∙◌}
use Rattle.clock.specs.Dots.{clock_of}
use Rattle.entrywalk.proofs.Lying.{own-says, all-of-run}
use Rattle.entrywalk.proofs.own_clock.Goals as goal

pub pick_clock-requires : goal.pick_clock-requires
pick_clock-requires c = (own-says c.requires.1).short

pub returns : goal.returns
returns c = λ e h. c.pick_clock.ensures ∙ ap clock_of (all-of-run (own-says h))
