-- Change each element, and keep those that pass a test, in order.
use Rattle.std.specs.Prelude.{Bool, cond, List, [], ◌∷◌}

unfoldable pub sift {ℓ ℓ'} : {A : Type ℓ} {B : Type ℓ'} → (B → Bool) → (A → B) → List A → List B
sift keep change [] = []
sift keep change (x ∷ l) = cond (keep (change x)) (change x ∷ sift keep change l) (sift keep change l)

-- those that pass a test
abbrev pub those {ℓ} : {A : Type ℓ} → (A → Bool) → List A → List A
those keep l = sift keep (λ x. x) l
