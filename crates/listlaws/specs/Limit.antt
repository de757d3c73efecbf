-- A list laid down where it is within a limit, and something else where it is not.
use Rattle.std.specs.Prelude.{cond, List, ℕ, leb, length}

unfoldable pub if_within {ℓ} : {A : Type 0} {S : Type ℓ} → ℕ → (List A → S) → S → List A → S
if_within limit good bad l = cond (leb (length l) limit) (good l) bad
