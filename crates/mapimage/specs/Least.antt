-- The least of some numbers from a bound on.
use Rattle.std.specs.Prelude.{ℕ, cond, ◌&&◌, List, ltb, leb}
use Rattle.listlaws.specs.Fold.{fold}

-- the least number from `low` on, where there is one below m, else m
abbrev pub lesser : ℕ → ℕ → ℕ → ℕ
lesser low m x = cond (leb low x && ltb x m) x m

unfoldable pub least_from : ℕ → ℕ → List ℕ → ℕ
least_from low m l = fold (lesser low) m l
