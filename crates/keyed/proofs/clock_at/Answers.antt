-- `clock_at` meets its contract: the run of the entry's dots is its clock.
use mathlib.Core.Path.{ap, ◌∙◌}
use Rattle.clock.specs.Dots.{clock_of}
use Rattle.asking.proofs.Askings.{clock-at}
use Rattle.keyed.proofs.Registers.{entry-clock, entry-short}
use Rattle.keyed.proofs.clock_at.Goals as goal

pub clock_of-requires : goal.clock_of-requires
clock_of-requires c = entry-short c.spans_of-at.ensures

pub returns : goal.returns
returns c = c.clock_of.ensures ∙ entry-clock c.spans_of-at.ensures ∙ ap clock_of (clock-at _ _)
