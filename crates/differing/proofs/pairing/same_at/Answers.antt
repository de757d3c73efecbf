-- `same_at` meets its contract: the runs of two values' dots are compared, and what their records say.
use mathlib.Core.Path.{ap, ap₂, ◌∙◌}
use mathlib.Core.Bool.{◌&&◌}
use Rattle.equality.specs.Equality.{same_content, equal_clock, same_pair}
use Rattle.entrywalk.proofs.Lying.{value-says}
use Rattle.differing.proofs.pairing.same_at.Goals as goal

pub compare_runs-o-requires : goal.compare_runs-o-requires
compare_runs-o-requires c =
    let p = c.requires in
    (rw c.run_at.ensures (value-says p.0.1 _ p.0.2).lawful, rw c.run_at-2.ensures (value-says p.1.1 _ p.1.2).lawful)

pub returns : goal.returns
unfolding same_pair
returns c = λ e f h k g l.
    let o = rw (c.run_at.ensures, c.run_at-2.ensures, (value-says h _ k).dots, (value-says g _ l).dots) at c.compare_runs-o.ensures in
    ap₂ ◌&&◌ (c.is_equal.ensures ∙ ap equal_clock o) (ap₂ same_content (c.content_at-v.ensures e h k) (c.content_at-w.ensures f g l))
