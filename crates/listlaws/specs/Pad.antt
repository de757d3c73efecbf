-- A list in an array of n places: its elements first, then the filler z.
use Rattle.std.specs.Prelude.{List, ◌++◌, ℕ, ◌-◌, length, replicate}

unfoldable pub pad {ℓ} : {A : Type ℓ} → A → ℕ → List A → List A
pad z n l = l ++ replicate (n - length l) z
