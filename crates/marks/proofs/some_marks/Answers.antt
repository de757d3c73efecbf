-- `some_marks` meets its contract: one of them is set.
use Rattle.std.proofs.Common.{◌≡◌, take, Bool, List, [], ◌∷◌, true, false, refl, ◌∙◌}
use mathlib.Core.Bool.{beq}
use Rattle.std.specs.List.{list_any}
use Rattle.listlaws.specs.First.{some, first_in}
use Rattle.marks.proofs.some_marks.Goals as goal

some-any : (bs : List Bool) → list_any (λ b. beq b true) bs ≡ some (λ b. b) bs
unfolding first_in
some-any [] = refl
some-any (true ∷ bs) = refl
some-any (false ∷ bs) = some-any bs

pub returns : goal.returns
returns c = c.contains.ensures.value ∙ some-any (take c.args.n c.args.marks)
