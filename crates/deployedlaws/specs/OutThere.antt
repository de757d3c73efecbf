-- The controllers that are out there: 01's table of kinds, 01's order and 01's limits as they stood before the requests, in one reader.
use Rattle.std.specs.Prelude.{◌≡◌, List, ℕ, ◌≤◌, ◌<◌, length}
use Rattle.map.specs.Model.{entries_in, waiting_in}
use Rattle.records.specs.Bytes.{Bytes}
use Rattle.records.specs.Kinds.{clock_dot_kind, waiting_key_kind}
use Rattle.clockimage.specs.Image.{image_of}
use Rattle.mapimage.specs.MapImage.{longest_by, map_image}
use Rattle.maprecords.specs.Related.{ReadMap}
use Rattle.maprecords.specs.Reading.{map_in}
use Rattle.maprecords.specs.Related.{related, refused_map, read_map}
use Rattle.limitlaws.specs.Sleds.{old_sleds}
use Rattle.limitlaws.specs.Widening.{Over}
use Rattle.originlaws.specs.Before.{old_judged}
use Rattle.originlaws.specs.Origins.{NoOrigins, SomeOrigin}

-- a map's image: 16 entries and 8 waiting removals, no origins. (Of an operation no limit has moved: its reader of then is `old_op`.)
unfoldable pub first_map : List ℕ → ReadMap
first_map s =
    image_of (longest_by old_sleds) refused_map
    (old_judged old_sleds clock_dot_kind waiting_key_kind refused_map related (λ l. record { number = 0; map = map_in l })) s

pub record OutThere : Type 0 where
  -- of every image that is accepted today, what it answers: longer than 14,464 bytes 2
  pub longer : (s : List ℕ) → (read_map s).number ≡ 0 → 14464 < length s → first_map s ≡ refused_map 2
  -- else 1 where a value has an origin
  pub named : (s : List ℕ) → (read_map s).number ≡ 0 → length s ≤ 14464 → SomeOrigin (read_map s).map → first_map s ≡ refused_map 1
  -- else 2 where it has more than 16 entries or 8 waiting removals
  pub larger : (s : List ℕ) → Bytes s → (read_map s).number ≡ 0 → NoOrigins (read_map s).map → Over old_sleds (read_map s).map
      → first_map s ≡ refused_map 2
  -- else the very map
  pub same : (s : List ℕ) → Bytes s → (read_map s).number ≡ 0 → NoOrigins (read_map s).map → length (entries_in (read_map s).map) ≤ 16
      → length (waiting_in (read_map s).map) ≤ 8 → first_map s ≡ read_map s
  -- and every image that it accepted is accepted today, means the same map with origins 0, and is written back byte for byte
  pub still : (s : List ℕ) → (first_map s).number ≡ 0 → read_map s ≡ first_map s
  pub zero : (s : List ℕ) → (first_map s).number ≡ 0 → NoOrigins (read_map s).map
  pub unchanged : (s : List ℕ) → Bytes s → (first_map s).number ≡ 0 → map_image (read_map s).map ≡ s
