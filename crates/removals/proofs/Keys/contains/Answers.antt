-- `Keys::contains` meets its contract: the library's search asks the same of each key.
use mathlib.Core.Path.{◌≡◌, refl, ap, ◌∙◌}
use mathlib.Core.Bool.{Bool, true, false, cond, ◌||◌}
use mathlib.Core.List.{List, [], ◌∷◌}
use Rattle.std.specs.List.{list_any}
use Rattle.listlaws.specs.First.{first_in, some}
use Rattle.removals.specs.Waits.{listed}
use Rattle.removals.proofs.Keys.contains.Goals as goal

any-some : {A : Type 0} (p : A → Bool) (l : List A) → list_any p l ≡ some p l
unfolding first_in
any-some p [] = refl
any-some p (x ∷ l) = go (p x) (any-some p l)
  where
    go : (b : Bool) {s t : Bool} → s ≡ t → (b || s) ≡ cond b true t
    go true e = refl
    go false e = e

pub returns : goal.returns
unfolding listed
returns c = c.contains.ensures.value ∙ any-some _ _ ∙ ap (some _) c.as_slice.ensures
