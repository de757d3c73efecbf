-- `waits_same` meets its contract.
use mathlib.Core.Path.{ap₂, ◌∙◌}
use mathlib.Core.Bool.{not, ◌&&◌}
use Rattle.mending.proofs.Dots.{same-clocks}
use Rattle.mending.proofs.waits_same.Goals as goal

pub returns : goal.returns
returns c = ap₂ (λ x y. not x && not y) c.waits_before.ensures c.waits_before-2.ensures ∙ same-clocks _ _
