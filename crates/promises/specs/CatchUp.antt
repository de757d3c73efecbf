-- CR 12, in its words: a list of operation images cut into operations, run from our map on, and held against their map.
use Rattle.std.specs.Prelude.{Bool, true, false, cond, ◌&&◌, ◌||◌, List, [], ◌∷◌, ◌++◌, ℕ, zero, suc, ◌+◌, ◌/◌, eqb, leb, ltb, length, take, drop}
use Rattle.std.specs.Prelude.{get_or, replicate}
use Rattle.records.specs.Kinds.{removal_kind, update_kind}
use Rattle.mapimage.specs.MapImage.{map_longest}
use Rattle.maprecords.specs.Related.{read_map}
use Rattle.answers.specs.Answer.{Answer, first_of, number_of}
use Rattle.promises.specs.Calls.{apply_answer, bare_answer}

-- "up to 32 operation images"
abbrev pub operation_limit : ℕ
operation_limit = 32

-- "each whole record of kind 7 or 10": one stands first
unfoldable pub head_first : List ℕ → Bool
head_first s = leb 16 (length s) && (eqb (get_or s 0 0) removal_kind || eqb (get_or s 0 0) update_kind)

-- bytes in front of operations: they are an operation where a head follows, and begin the first one where none does
unfoldable pub in_front : List ℕ → Bool → List (List ℕ) → List (List ℕ)
in_front b true ops = b ∷ ops
in_front b false [] = b ∷ []
in_front b false (o ∷ ops) = (b ++ o) ∷ ops

-- less than a record: nothing, or a part of one
unfoldable pub less_than_record : List ℕ → List (List ℕ)
less_than_record [] = []
less_than_record (x ∷ l) = (x ∷ l) ∷ []

-- "cut before each whole record of kind 7 or 10": n records, and what is left behind them
unfoldable pub cut_records : ℕ → List ℕ → List (List ℕ)
cut_records zero s = less_than_record s
cut_records (suc n) s = in_front (take 16 s) (head_first (drop 16 s)) (cut_records n (drop 16 s))

-- the operations of a list
unfoldable pub operations_of : List ℕ → List (List ℕ)
operations_of s = cut_records (length s / 16) s

-- an operation's own answer: the number of castribba_apply with an output of the longest size
unfoldable pub apply_number : List ℕ → List ℕ → ℕ
apply_number map op = number_of (apply_answer map op) (replicate map_longest 0)

-- "the number of the first refused operation's own answer, with its place"; 0 and 0 where none is refused, with the image that they end in
pub record Outcome : Type 0 where
  pub number : ℕ
  pub place : ℕ
  pub image : List ℕ

-- "applying them in order", the first of them at `place`
unfoldable pub outcome_from : ℕ → List ℕ → List (List ℕ) → Outcome
outcome_from place s [] = record { number = 0; place = 0; image = s }
outcome_from place s (o ∷ ops) =
    cond (eqb (apply_number s o) 0) (outcome_from (place + 1) (apply_answer s o).bytes ops)
    (record { number = apply_number s o; place = place; image = s })

-- "with its place from 0"
abbrev pub outcome_of : List ℕ → List ℕ → Outcome
outcome_of map list = outcome_from 0 map (operations_of list)

-- two images have the same bytes
unfoldable pub same_bytes : List ℕ → List ℕ → Bool
same_bytes [] [] = true
same_bytes [] (y ∷ m) = false
same_bytes (x ∷ l) [] = false
same_bytes (x ∷ l) (y ∷ m) = eqb x y && same_bytes l m

-- "17 for more than 32 operations"
abbrev pub many_number : List ℕ → ℕ
many_number list = cond (ltb operation_limit (length (operations_of list))) 17 0

-- "16 when the list ends elsewhere" than in their map's image
abbrev pub elsewhere_number : List ℕ → List ℕ → ℕ
elsewhere_number image other = cond (same_bytes image other) 0 16

-- "after the maps' own": 17 "before any is applied", then the first refused operation's number, then 16
abbrev pub catch_up_answer : List ℕ → List ℕ → List ℕ → Answer
catch_up_answer map other list = bare_answer (read_map map).number (read_map other).number
    (first_of (many_number list ∷ (outcome_of map list).number ∷ elsewhere_number (outcome_of map list).image other ∷ []))

-- the place of the operation that was refused, where both maps and 17 let it come to that
unfoldable pub catch_up_place : List ℕ → List ℕ → List ℕ → ℕ
catch_up_place map other list =
    cond (eqb (first_of ((read_map map).number ∷ (read_map other).number ∷ many_number list ∷ [])) 0) (outcome_of map list).place 0
