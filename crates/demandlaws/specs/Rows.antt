-- A table of numbers as rows: a number, and whether its sentence holds. The first row that holds decides.
use Rattle.std.specs.Prelude.{◌≡◌, Bool, true, false, not, cond, ◌&&◌, ℕ, eqb}
use mathlib.Core.List.{List, [], ◌∷◌, ◌++◌}
use Rattle.listlaws.specs.First.{none}
use Rattle.listlaws.specs.Order.{◌∈◌}
use Rattle.scan.specs.Each.{every}
use Rattle.maplaws.specs.Among.{Exactly}

pub record Row : Type 0 where
  pub number : ℕ
  pub holds : Bool

abbrev pub row : ℕ → Bool → Row
row n b = record { number = n; holds = b }

-- the number of the first row that holds; 0, done, where none does
unfoldable pub decided : List Row → ℕ
decided [] = 0
decided (r ∷ l) = cond r.holds r.number (decided l)

-- no row of these holds
abbrev pub none_holds : List Row → Bool
none_holds l = none (λ r. r.holds) l

-- no row of these has this number
abbrev pub has_not : ℕ → List Row → Bool
has_not n l = every (λ r. not (eqb r.number n)) l

-- the numbers that a table can decide on: its rows', and 0
abbrev pub numbers_of : List Row → List ℕ
numbers_of l = 0 ∷ mathlib.Core.List.map (λ r. r.number) l

-- of a number n and a table: each row whose number stands once in it comes "exactly when" its sentence holds and no earlier one does
pub record ByTable (rows : List Row) (n : ℕ) : Type 0 where
  pub first : n ≡ decided rows
  pub among : n ∈ numbers_of rows
  pub exactly : (before : List Row) (r : Row) (after : List Row) → rows ≡ before ++ (r ∷ after)
      → has_not r.number before ≡ true → has_not r.number after ≡ true → eqb r.number 0 ≡ false
      → Exactly (n ≡ r.number) ((none_holds before ≡ true) × (r.holds ≡ true))
