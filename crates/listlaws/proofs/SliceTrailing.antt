-- A loop that adds each of the used places of an array, from place i on, to a pack.
use mathlib.Core.Path.{◌≡◌, ap}
use mathlib.Core.List.{List, [], ◌∷◌, ◌++◌, map}
use Prim.Native.Nat.{ℕ, ◌+◌, ◌≤◌, ◌<◌}
use lib.ListN.{length, drop, get_or}
use Rattle.listlaws.proofs.SliceRests.{map_on, drop-end}
use Rattle.listlaws.proofs.Growing.{Growing, grow-add, grow-end, grow-room}

-- the rest of an array, from place i on, goes behind what is packed
pub record Trailing {A B S : Type 0} (pack : List B → S) (change : A → B) (whole : List B) (xs : List A) (i : ℕ) (s : S) : Type 0 where
  pub growing : Growing pack whole (map change (drop i xs)) s

module _ {A B S : Type 0} {pack : List B → S} {change : A → B} {whole : List B} {xs : List A} where
  pub trailing-start : {i : ℕ} {s : S} (l : List B) → whole ≡ l ++ map change (drop i xs) → s ≡ pack l → Trailing pack change whole xs i s
  trailing-start l e f = record { growing = record { done = l; packed = f; parts = e } }

  pub trailing-add : {i : ℕ} {s t : S} (d : A) → Trailing pack change whole xs i s → i < length xs
      → ((l : List B) → s ≡ pack l → t ≡ pack (l ++ (change (get_or xs i d) ∷ []))) → Trailing pack change whole xs (i + 1) t
  trailing-add {i} d g h f = record { growing = grow-add g.growing (map_on xs i d h change) f }

  -- what is packed so far, and that there is room for one more where there is room for all
  pub trailing-room : {i : ℕ} {s : S} (d : A) → Trailing pack change whole xs i s → i < length xs
      → (l : List B) × (s ≡ pack l) × (length l < length whole)
  trailing-room {i} d g h = (g.growing.done, g.growing.packed, grow-room g.growing (map_on xs i d h change))

  pub trailing-end : {i : ℕ} {s : S} → Trailing pack change whole xs i s → length xs ≤ i → s ≡ pack whole
  trailing-end {i} g h = grow-end g.growing (ap (map change) (drop-end xs i h))
