-- `any_listed` meets its contract: a mark that is set stands among the first n.
use mathlib.Core.Path.{◌≡◌, refl, ◌∙◌}
use mathlib.Core.Bool.{Bool, true, false, beq}
use mathlib.Core.List.{List, [], ◌∷◌}
use Rattle.std.specs.List.{list_any}
use Rattle.listlaws.specs.First.{some, first_in}
use Rattle.leaving.proofs.any_listed.Goals as goal

one-set : (l : List Bool) → list_any (λ b. beq b true) l ≡ some (λ b. b) l
unfolding first_in
one-set [] = refl
one-set (true ∷ l) = refl
one-set (false ∷ l) = one-set l

pub returns : goal.returns
returns c = c.contains.ensures.value ∙ one-set _
