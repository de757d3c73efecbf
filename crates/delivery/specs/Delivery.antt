-- What a reader of pieces answers at the end, from its memory: for every content of it.
use Rattle.std.specs.Prelude.{◌≡◌, Bool, cond, ◌&&◌, ◌||◌, List, [], ◌∷◌, ℕ, min, eqb}
use Rattle.records.specs.Bytes.{num_at, num_bytes, placed}
use Rattle.records.specs.Records.{bytes_of}
use Rattle.scan.specs.Each.{every}
use Rattle.mapimage.specs.MapImage.{records_in}
use Rattle.maprecords.specs.Related.{entry_whole, ascend, length_number}
use Rattle.answers.specs.Answer.{Answer, first_of, number_of, Answered}
use Rattle.memory.specs.Memory.{open_place, length_place, number_place, lost_place, clock_place, dots_at, entries_at, waiting_at}

-- the number of the records one by one: a byte that is more than 2 counts as 2
abbrev pub scanned_at : List ℕ → ℕ
scanned_at w = min (num_at 0 number_place w) 2

-- whether the records are related, asked of what stands in the memory
abbrev pub related_at : List ℕ → Bool
related_at w = eqb (num_at 0 lost_place w) 0 && (every (entry_whole (dots_at w clock_place)) (entries_at w) && ascend (waiting_at w))

-- the first number that applies: of the length, of the records one by one, of the records as a whole
unfoldable pub end_number : List ℕ → ℕ
end_number w = first_of (length_number (num_at 2 length_place w) ∷ scanned_at w ∷ cond (related_at w) 0 3 ∷ [])

-- the image of what stands in the memory
unfoldable pub image_at : List ℕ → List ℕ
image_at w = bytes_of (records_in (dots_at w clock_place) (entries_at w) (waiting_at w))

-- 13 after the end, before all others
abbrev pub closed_number : List ℕ → ℕ
closed_number w = cond (eqb (num_at 0 open_place w) 1) 0 13

abbrev pub end_answer : List ℕ → Answer
end_answer w = record { first = closed_number w; second = end_number w; own = 0; bytes = image_at w }

-- 13 and 10 leave the reader as it was; every other answer ends it, and changes no byte but the mark
unfoldable pub ended_by : ℕ → List ℕ → List ℕ
ended_by number w = cond (eqb number 13 || eqb number 10) w (placed open_place (num_bytes 0 0) w)

-- what the end promises: of the memory `held` and the output `entry`, the memory and the output left, and the word
pub record Ended (held entry left exit : List ℕ) (word : ℕ) : Type 0 where
  pub answered : Answered (end_answer held) entry exit word
  pub reader : left ≡ ended_by (number_of (end_answer held) entry) held
