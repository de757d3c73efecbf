-- Where an operation of a list ends.
use Rattle.std.specs.Prelude.{◌≡◌, List, ◌∷◌, ℕ, ◌-◌, ◌≤◌, ◌<◌, length, take, drop}
use Rattle.promises.specs.CatchUp.{operations_of}

-- of the bytes from `at` on, the first operation ends at `next`
pub record EndsAt (list : List ℕ) (at next : ℕ) : Type 0 where
  pub past : at < next
  pub within : next ≤ length list
  pub cut : operations_of (drop at list) ≡ take (next - at) (drop at list) ∷ operations_of (drop next list)
