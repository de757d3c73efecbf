-- `none_at` meets its contract: nothing lies there.
use mathlib.Core.Path.{refl}
use Rattle.entrywalk.proofs.Fronts.{none-lies}
use Rattle.entrywalk.proofs.none_at.Goals as goal

pub returns : goal.returns
returns c = ((refl, refl), λ s. none-lies s _ _ _)
