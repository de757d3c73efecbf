-- `Entry::put` meets its contract: the dot fits, so the clock is the grown one.
use mathlib.Core.Path.{ap, sym, ◌∙◌}
use Rattle.clock.proofs.Packs.{fits}
use Rattle.entries.specs.Entries.{put_entry}
use Rattle.entries.proofs.Packs.{wide-as}
use Rattle.entries.proofs.Entry.put.Goals as goal

pub returns : goal.returns
unfolding put_entry
returns c =
    let s = c.before.before in
    let k = ap (λ j. j.clock) (s.add-grown.ensures ∙ fits _ s.requires) in
    rw (k, c.put-wide.ensures) (sym (wide-as _ _ _))
