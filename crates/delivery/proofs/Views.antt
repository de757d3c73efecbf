-- What stands in a reader's memory, as a loop over its places meets it.
use mathlib.Core.Path.{◌≡◌, ap}
use mathlib.Core.List.{List, [], ◌∷◌, map}
use Prim.Native.Nat.{ℕ, ◌+◌, ◌*◌, ◌≤◌, ◌<◌}
use lib.ListN.{length, drop}
use Rattle.listlaws.proofs.Pads.{take-pad}
use Rattle.limits.specs.Limits.{dot_limit, value_limit, key_limit}
use Rattle.clock.specs.Dots.{no_dot, dots_of}
use Rattle.register.specs.Values.{no_value}
use Rattle.removals.specs.Model.{under_of}
use Rattle.entries.specs.Model.{dots_in, values_in}
use Rattle.mapimage.specs.MapImage.{key_number, key_numbers}
use Rattle.memory.specs.Memory.{dot_room, own_place, values_place, value_place, keys_place, key_place, removal_place, count_at, dot_at, dots_at}
use Rattle.memory.specs.Memory.{value_at}
use Rattle.memory.specs.Memory.{values_at, entry_held_at, entry_count, entries_at, listed_at, removal_at, waiting_count_at, waiting_at}
use Rattle.records.specs.Bytes.{num_at}
use Rattle.memory.proofs.Views.{length-of}
use Rattle.delivery.proofs.Belows.{left-on, left_end}

module _ (w : List ℕ) where
  pub length-dots : (at : ℕ) → length (dots_at w at) ≡ count_at dot_limit at w
  unfolding dots_at
  length-dots at = length-of _ (count_at dot_limit at w)

  pub dots-left : (at i : ℕ) → i < count_at dot_limit at w → drop i (dots_at w at) ≡ dot_at w (at + 1 + i * dot_room) ∷ drop (i + 1) (dots_at w at)
  unfolding dots_at
  dots-left at i h = left-on _ (count_at dot_limit at w) i h

  pub dots-end : (at i : ℕ) → count_at dot_limit at w ≤ i → drop i (dots_at w at) ≡ []
  unfolding dots_at
  dots-end at i h = left_end _ (count_at dot_limit at w) i h

  -- the values of an entry, and the dots of one
  pub values-left : (j i : ℕ) → i < count_at value_limit (values_place j) w
      → drop i (values_at w j) ≡ value_at w (value_place j i) ∷ drop (i + 1) (values_at w j)
  unfolding values_at
  values-left j i h = left-on _ (count_at value_limit (values_place j) w) i h

  pub values-end : (j i : ℕ) → count_at value_limit (values_place j) w ≤ i → drop i (values_at w j) ≡ []
  unfolding values_at
  values-end j i h = left_end _ (count_at value_limit (values_place j) w) i h

  pub value-dots : (at : ℕ) → dots_of (value_at w at).clock ≡ dots_at w (at + 8)
  value-dots at = take-pad no_dot dot_limit (dots_at w (at + 8))

  -- an entry's dots and values
  pub entry-dots : (j : ℕ) → dots_in (entry_held_at w j) ≡ dots_at w (own_place j)
  entry-dots j = take-pad no_dot dot_limit (dots_at w (own_place j))

  pub entry-values : (j : ℕ) → values_in (entry_held_at w j) ≡ values_at w j
  entry-values j = take-pad no_value value_limit (values_at w j)

  pub entries-left : (j : ℕ) → j < entry_count w → drop j (entries_at w) ≡ entry_held_at w j ∷ drop (j + 1) (entries_at w)
  unfolding entries_at
  entries-left j h = left-on (entry_held_at w) (entry_count w) j h

  pub entries-end : (j : ℕ) → entry_count w ≤ j → drop j (entries_at w) ≡ []
  unfolding entries_at
  entries-end j h = left_end (entry_held_at w) (entry_count w) j h

  pub waiting-left : (k : ℕ) → k < waiting_count_at w → drop k (waiting_at w) ≡ removal_at w k ∷ drop (k + 1) (waiting_at w)
  unfolding waiting_at
  waiting-left k h = left-on (removal_at w) (waiting_count_at w) k h

  pub waiting-end : (k : ℕ) → waiting_count_at w ≤ k → drop k (waiting_at w) ≡ []
  unfolding waiting_at
  waiting-end k h = left_end (removal_at w) (waiting_count_at w) k h

  -- the dots and the keys of a removal
  module _ (k : ℕ) where
    pub under-dots : under_of (removal_at w k) ≡ dots_at w (removal_place k)
    under-dots = take-pad no_dot dot_limit (dots_at w (removal_place k))

    pub numbers-listed : key_numbers k (removal_at w k) ≡ map (key_number k) (listed_at w k)
    numbers-listed = ap (map (key_number k)) (take-pad 0 key_limit (listed_at w k))

    pub listed-left : (i : ℕ) → i < count_at key_limit (keys_place k) w → drop i (listed_at w k)
        ≡ num_at 2 (key_place k i) w ∷ drop (i + 1) (listed_at w k)
    unfolding listed_at
    listed-left i h = left-on _ (count_at key_limit (keys_place k) w) i h

    pub listed-end : (i : ℕ) → count_at key_limit (keys_place k) w ≤ i → drop i (listed_at w k) ≡ []
    unfolding listed_at
    listed-end i h = left_end _ (count_at key_limit (keys_place k) w) i h
