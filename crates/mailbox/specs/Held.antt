-- What a memory holds after the pieces of a map's image that came so far: the state of a reader that has taken their records.
use Rattle.std.specs.Prelude.{◌≡◌, cond, List, [], ◌∷◌, ◌++◌, ℕ, ◌+◌, ◌*◌, ◌/◌, ◌%◌, ◌≤◌, ◌<◌, ltb, length, get_or}
use Rattle.records.specs.declared.Record.{Record}
use Rattle.records.specs.Bytes.{num_at, Bytes}
use Rattle.records.specs.Records.{records_of}
use Rattle.mapimage.specs.MapImage.{map_longest}
use Rattle.maprecords.specs.SoFar.{MapSoFar}
use Rattle.memory.specs.Memory.{reader_room, open_place, length_place, held_place}
use Rattle.memory.specs.Reader.{reader_at}

-- a length, or one more than the longest
abbrev pub length_to : ℕ → ℕ
length_to n = cond (ltb map_longest n) (map_longest + 1) n

-- s is all that came to an open reader: while it is not longer than the longest, its whole records were taken, and the bytes behind them are held
pub record Came (s w : List ℕ) : Type 0 where
  pub long : length w ≡ reader_room
  pub bytes : Bytes w
  pub is_open : num_at 0 open_place w ≡ 1
  pub len : num_at 2 length_place w ≡ length_to (length s)
  pub taken : List Record
  pub so_far : MapSoFar taken (reader_at w)
  pub whole : length s ≤ map_longest → taken ≡ records_of s
  pub held : length s ≤ map_longest → (i : ℕ) → i < length s % 16 → get_or w (held_place + i) 0 ≡ get_or s (length s / 16 * 16 + i) 0

-- pieces, one behind the other
unfoldable pub joined : List (List ℕ) → List ℕ
joined [] = []
joined (piece ∷ pieces) = piece ++ joined pieces
