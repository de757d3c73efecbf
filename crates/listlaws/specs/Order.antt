-- Strictly ascending lists, over any element and any order on it.
use Rattle.std.specs.Prelude.{◌≡◌, Bool, true, false, ℕ, ltb}
use mathlib.Core.List.{List, [], ◌∷◌, Memᴰ}

infix 50 ◌∈◌
-- x stands in l
abbrev pub ◌∈◌ : {A : Type 0} → A → List A → Type 0
x ∈ l = Memᴰ x l

-- each element stands before all that follow it
pub data Ascending {A : Type 0} (before : A → A → Bool) : List A → Type 0 where
  nil : Ascending before []
  next : {x : A} {l : List A} → ((y : A) → y ∈ l → before x y ≡ true) → Ascending before l → Ascending before (x ∷ l)

-- an order by a number
abbrev pub by : {A : Type 0} → (A → ℕ) → A → A → Bool
by rank x y = ltb (rank x) (rank y)

-- no two elements stand before each other
abbrev pub Strict : {A : Type 0} → (A → A → Bool) → Type 0
Strict {A} before = (x y : A) → before x y ≡ true → before y x ≡ false
