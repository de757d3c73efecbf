-- `same_clock` meets its contract: the runs of the entries' dots are compared.
use mathlib.Core.Path.{ap, ap₂, ◌∙◌}
use Rattle.clock.specs.Dots.{order_of}
use Rattle.equality.specs.Equality.{equal_clock}
use Rattle.entrywalk.proofs.Lying.{own-says}
use Rattle.differing.proofs.pairing.same_clock.Goals as goal

pub compare_runs-requires : goal.compare_runs-requires
compare_runs-requires c =
    let p = c.requires in
    ((own-says p.0.1).lawful, (own-says p.1.1).lawful)

pub returns : goal.returns
returns c = λ e f h k. c.is_equal.ensures ∙ ap equal_clock (c.compare_runs.ensures ∙ ap₂ order_of (own-says h).dots (own-says k).dots)
