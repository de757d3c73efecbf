-- Where the removals of two lists go in a result, told by the keys that they bring.
use Rattle.std.specs.Prelude.{◌≡◌, true, List, ◌⊎◌, ℕ, ◌<◌, get_or}
use Rattle.listlaws.specs.Order.{◌∈◌}
use Rattle.removals.specs.declared.Removal.{Removal}
use Rattle.limits.specs.Limits.{waiting_limit}
use Rattle.removals.specs.Valid.{ValidRemoval}
use Rattle.queued.specs.Queue.{lists}

-- each with a clock, which may be empty, and a set of keys
abbrev pub SoundRemovals : List Removal → Type 0
SoundRemovals w = (r : Removal) → r ∈ w → ValidRemoval r

-- a removal of w that goes to a place lists a key
pub record Brings (w : List Removal) (table : List ℕ) (j key : ℕ) : Type 0 where
  pub from : ℕ
  pub low : from < waiting_limit
  pub goes : get_or table from waiting_limit ≡ j
  pub has : lists w from key ≡ true

-- each removal of two lists brings its keys to its new place, and nothing else does
pub record Moves (w v result : List Removal) (ours theirs : List ℕ) : Type 0 where
  pub first : (j key : ℕ) → j < waiting_limit → Brings w ours j key → lists result j key ≡ true
  pub second : (j key : ℕ) → j < waiting_limit → Brings v theirs j key → lists result j key ≡ true
  pub only : (j key : ℕ) → j < waiting_limit → lists result j key ≡ true → Brings w ours j key ⊎ Brings v theirs j key
