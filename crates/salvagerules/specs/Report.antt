-- "The report gives, in input order, each record removed or changed: its place from 0 in four little-endian bytes, the step in one."
use Rattle.std.specs.Prelude.{ℕ, ◌+◌, ◌*◌, ◌%◌, cond, List, [], ◌∷◌, ◌++◌, map, eqb, length}
use Rattle.records.specs.Bytes.{num_bytes}
use Rattle.records.specs.Records.{records_of}
use Rattle.salvagerules.specs.Steps.{fates_of}

pub record Told : Type 0 where
  pub place : ℕ
  pub step : ℕ

-- the steps of the records from a place on, 0 for a record that is neither removed nor changed
unfoldable pub told_from : ℕ → List ℕ → List Told
told_from place [] = []
told_from place (n ∷ l) = cond (eqb n 0) (told_from (place + 1) l) (record { place = place; step = n } ∷ told_from (place + 1) l)

-- "1: a partial record at the end goes.": its place is the number of whole records
abbrev pub step_one : List ℕ → List ℕ
step_one s = cond (eqb (length s % 16) 0) [] (1 ∷ [])

-- the step of each record, whole or partial
unfoldable pub steps_of : List ℕ → List ℕ
steps_of s = map (λ f. f.step) (fates_of (records_of s)) ++ step_one s

unfoldable pub told_of : List ℕ → List Told
told_of s = told_from 0 (steps_of s)

unfoldable pub told_bytes : List Told → List ℕ
told_bytes [] = []
told_bytes (t ∷ l) = (num_bytes 2 t.place ++ num_bytes 0 t.step) ++ told_bytes l

-- five bytes for each of so many records and a partial one
abbrev pub longest_report : ℕ
longest_report = 1801 * 5
