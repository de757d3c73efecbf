-- What a run of removals deletes: the counts of castribba_apply_deleted beside the run's calls, in any order.
use Rattle.std.specs.Prelude.{◌≡◌, ℕ, ◌+◌, ◌≤◌}
use mathlib.Core.List.{List, [], ◌∷◌, Permᴰ}
use Rattle.mapimage.specs.MapImage.{map_longest}
use Rattle.maprecords.specs.Related.{read_map}
use Rattle.promises.specs.Deleted.{entry_dots}
use Rattle.promises.specs.Promises.{ApplyDeletedPromise}
use Rattle.anyorderlaws.specs.Calls.{image_after, AllDone, end}

-- a call of castribba_apply_deleted beside each call of a run, with the length of an output of the longest size; and the total of what they answer
pub data Counts : List ℕ → List (List ℕ) → ℕ → Type 0 where
  nothing : {s : List ℕ} → Counts s [] 0
  next : {s o : List ℕ} {ops : List (List ℕ)} {room count total : ℕ}
      → ApplyDeletedPromise s o room count → map_longest ≤ room → Counts (image_after s o) ops total → Counts s (o ∷ ops) (count + total)

pub record DeletedInAnyOrder (s : List ℕ) (ops : List (List ℕ)) : Type 0 where
  -- the dots in all entry clocks before the run, less those behind it
  pub total : {n : ℕ} → AllDone s ops → Counts s ops n → entry_dots (read_map (end s ops)).map + n ≡ entry_dots (read_map s).map
  -- "for a list of removals in any order the counts sum to the same total"
  pub same_total : {others : List (List ℕ)} {n k : ℕ} → Permᴰ ops others → AllDone s ops → Counts s ops n → Counts s others k → k ≡ n
