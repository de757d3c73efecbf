-- `Clock::compare` meets its contract, by a walk where the clocks allow it, and else by looking up, both ways.
use mathlib.Core.Path.{sym, ◌∙◌}
use Rattle.clock.specs.Dots.{order_of}
use Rattle.clock.proofs.Walks.{lawful-told}
use Rattle.clock.proofs.Clock.compare.Goals as goal

pub compare_level-requires : goal.compare_level-requires
compare_level-requires c = sym c.same_actors.ensures ∙ c.if-same_actors.true

pub compare_beside-requires : goal.compare_beside-requires
compare_beside-requires c = (
  lawful-told (sym c.is_lawful.ensures ∙ c.if-is_lawful.true),
  lawful-told (sym c.is_lawful-then-is_lawful.ensures ∙ c.if-is_lawful-2.true),
)

pub returns : goal.returns
unfolding order_of
returns c = rw (← c.covers_by_look-over.ensures, ← c.covers_by_look-under.ensures) c.outcome.ensures
