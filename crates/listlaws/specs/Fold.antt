-- A state that takes one element after the other, and the sum of what each element counts.
use Rattle.std.specs.Prelude.{List, [], ◌∷◌, ℕ, ◌+◌}

unfoldable pub fold {ℓ ℓ'} : {A : Type ℓ} {S : Type ℓ'} → (S → A → S) → S → List A → S
fold step s [] = s
fold step s (x ∷ l) = fold step (step s x) l

unfoldable pub total_of : {A : Type 0} → (A → ℕ) → List A → ℕ
total_of size [] = 0
total_of size (x ∷ l) = size x + total_of size l
