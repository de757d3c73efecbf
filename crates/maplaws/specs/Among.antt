-- What is said of one of several removals, and that two such sayings come to the same.
use Rattle.std.specs.Prelude.{◌≡◌, List, ℕ}
use Rattle.listlaws.specs.Order.{◌∈◌}
use Rattle.clock.specs.declared.Dot.{Dot}
use Rattle.removals.specs.declared.Removal.{Removal}
use Rattle.removals.specs.Model.{under_of, listed_in}

-- one of these removals is such
abbrev pub OneOf : List Removal → (Removal → Type 0) → Type 0
OneOf l Such = (r : Removal) × (r ∈ l) × Such r

-- a removal under this clock, and one that lists this key besides
abbrev pub UnderClock : List Dot → Removal → Type 0
UnderClock c r = under_of r ≡ c

abbrev pub Lists : List Dot → ℕ → Removal → Type 0
Lists c k r = (under_of r ≡ c) × (k ∈ listed_in r)

-- the one exactly when the other
abbrev pub Exactly : Type 0 → Type 0 → Type 0
Exactly A B = (A → B) × (B → A)
