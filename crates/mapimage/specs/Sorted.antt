-- Numbers put in order, each once; and the least of some numbers from a bound on.
use Rattle.std.specs.Prelude.{ℕ, cond, List, [], ◌∷◌, eqb, ltb}
use Rattle.listlaws.specs.Fold.{fold}

unfoldable pub insert : ℕ → List ℕ → List ℕ
insert x [] = x ∷ []
insert x (y ∷ l) = cond (ltb x y) (x ∷ (y ∷ l)) (cond (eqb x y) (y ∷ l) (y ∷ insert x l))

unfoldable pub in_order : List ℕ → List ℕ
in_order l = fold (λ s x. insert x s) [] l
