-- Folding over two lists, one behind the other (`fold-append`).
use mathlib.Core.Path.{◌≡◌, refl}
use mathlib.Core.List.{List, [], ◌∷◌, ◌++◌}
use Rattle.listlaws.specs.Fold.{fold}

pub fold-append : {A S : Type 0} (step : S → A → S) (s : S) (l m : List A) → fold step s (l ++ m) ≡ fold step (fold step s l) m
unfolding fold
fold-append step s [] m = refl
fold-append step s (x ∷ l) m = fold-append step (step s x) l m
