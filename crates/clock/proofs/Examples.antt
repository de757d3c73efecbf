-- Dots by their two numbers, for worked examples.
use mathlib.Core.List.{List, [], ◌∷◌}
use Prim.Native.Nat.{ℕ}
use Rattle.clock.specs.declared.Dot.{Dot}

abbrev pub dot : ℕ → ℕ → Dot
dot a n = record { actor = a; counter = n }

-- the dots of a clock that has seen one actor
abbrev pub one : ℕ → ℕ → List Dot
one a n = dot a n ∷ []
