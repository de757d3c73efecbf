-- `Clock::sift` meets its contract, by the walk where both clocks are in order, and else by looking up.
use mathlib.Core.Path.{sym, ◌∙◌}
use Rattle.clock.proofs.Walks.{lawful-told}
use Rattle.clock.proofs.Clock.sift.Goals as goal

pub sift_beside-requires : goal.sift_beside-requires
sift_beside-requires c = (
  lawful-told (sym c.is_lawful.ensures ∙ c.if-is_lawful.true),
  lawful-told (sym c.is_lawful-then-is_lawful.ensures ∙ c.if-is_lawful-2.true),
)
