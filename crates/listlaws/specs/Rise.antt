-- Whether elements ascend by a number, as a loop finds it out.
use Rattle.std.specs.Prelude.{Bool, true, false, ◌&&◌, List, [], ◌∷◌, ℕ, ◌+◌, leb, eqb}

-- from `low` on, each element passing a test
unfoldable pub rising {ℓ} : {A : Type ℓ} → (A → ℕ) → (A → Bool) → ℕ → List A → Bool
rising rank good low [] = true
rising rank good low (x ∷ l) = (leb low (rank x) && good x) && rising rank good (rank x + 1) l

-- whether two lists have the same numbers, place by place, strictly ascending from `low` on
unfoldable pub alike {ℓ} : {A : Type ℓ} → (A → ℕ) → ℕ → List A → List A → Bool
alike rank low [] [] = true
alike rank low [] (y ∷ m) = false
alike rank low (x ∷ l) [] = false
alike rank low (x ∷ l) (y ∷ m) = (leb low (rank x) && eqb (rank x) (rank y)) && alike rank (rank x + 1) l m
