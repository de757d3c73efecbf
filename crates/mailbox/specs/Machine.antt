-- What a reader of pieces does to its memory, byte by byte: for every content of it.
use Rattle.std.specs.Prelude.{Bool, cond, ◌&&◌, List, ℕ, ◌+◌, ◌*◌, ◌%◌, ◌^◌, eqb, leb, replicate}
use Rattle.listlaws.specs.Fold.{fold}
use Rattle.records.specs.declared.Record.{Record}
use Rattle.records.specs.Bytes.{num_at, placed}
use Rattle.records.specs.Records.{record_from}
use Rattle.records.specs.Kinds.{clock_dot_kind, waiting_key_kind}
use Rattle.scan.specs.Stepping.{scan_on, under_on}
use Rattle.mapimage.specs.MapImage.{map_longest}
use Rattle.memory.specs.Memory.{open_place, length_place, held_place, under_place, lost_place, clock_place, scan_at}
use Rattle.memory.specs.Putting.{put, record_put, scan_put}

-- a whole record
unfoldable pub record_in : List ℕ → Record → List ℕ
record_in w r =
    let at = under_place + r.index in
    let n = num_at 0 at w in
    let s = scan_on clock_dot_kind waiting_key_kind (scan_at w) r n in
    let next = scan_put s (put 0 at (under_on n r.kind) w) in
    cond (eqb s.number 0 && eqb (num_at 0 lost_place w) 0) (record_put r next) next

-- a byte; what is longer than the longest image is only counted, to one more
unfoldable pub byte_in : List ℕ → ℕ → List ℕ
byte_in w b =
    let n = num_at 2 length_place w in
    let next = put 2 length_place (n + 1) (put 0 (held_place + n % 16) b w) in
    cond (leb map_longest n) (put 2 length_place (map_longest + 1) w)
    (cond (eqb (n % 16) 15) (record_in next (record_from next held_place)) next)

-- a piece
unfoldable pub piece_in : List ℕ → List ℕ → List ℕ
piece_in w piece = fold byte_in w piece

-- zeros
unfoldable pub zeros : ℕ → List ℕ
zeros n = replicate n 0

-- a reader that is open and has taken nothing: the numbers of its scan, its counts and its map clock are 0, whatever stood there
unfoldable pub begun : List ℕ → List ℕ
begun w = placed length_place (zeros clock_place) (put 0 open_place 1 w)

-- the answer of a piece, and the memory behind it: 13 where the reader is not open
abbrev pub is_open : List ℕ → Bool
is_open w = eqb (num_at 0 open_place w) 1

abbrev pub take_word : List ℕ → ℕ
take_word w = cond (is_open w) 0 (13 * 2 ^ 32)

abbrev pub take_in : List ℕ → List ℕ → List ℕ
take_in w piece = cond (is_open w) (piece_in w piece) w
