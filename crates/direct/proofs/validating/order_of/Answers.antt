-- `order_of` meets its contract: the map clock and the entry's are those of the map.
use mathlib.Core.Path.{◌∙◌}
use Rattle.clock.proofs.Packs.{dots-of}
use Rattle.asking.specs.Asking.{validate_update, validate_op}
use Rattle.direct.proofs.validating.order_of.Goals as goal

pub returns-then-op : goal.returns-then-op
unfolding validate_op validate_update
returns-then-op c =
    let p = c.requires in
    c.follow.ensures ∙ rw (p.clock, dots-of _ c.clock_at-held.ensures, c.if-op.true)

pub returns : goal.returns
unfolding validate_op
returns c = rw c.if-op.false
