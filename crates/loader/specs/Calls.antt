-- What the two calls of the loader answer, of the bytes and the number that they are given, and their contracts.
use Rattle.std.specs.Prelude.{Bool, cond, ◌&&◌, List, ℕ, leb}
use Rattle.maprecords.specs.Related.{read_map}
use Rattle.answers.specs.Answer.{Answer, Answered}
use Rattle.loader.specs.Reports.{report_at, report_bytes, reports_after}

-- "Keys 1 to 24 are bays."
abbrev pub bay_count : ℕ
bay_count = 24

abbrev pub is_bay : ℕ → Bool
is_bay key = leb 1 key && leb key bay_count

-- "14 for a bay outside 1 to 24, after the map's own, before 10"
abbrev pub bay_number : ℕ → ℕ
bay_number bay = cond (is_bay bay) 0 14

-- "A call for one bay writes one report"
abbrev pub bay_answer : List ℕ → ℕ → Answer
bay_answer map bay = record {
  first = (read_map map).number;
  second = 0;
  own = bay_number bay;
  bytes = report_bytes (report_at (read_map map).map bay);
}

-- "a call for all bays 24 in bay order"
abbrev pub bays_answer : List ℕ → Answer
bays_answer map = record {
  first = (read_map map).number;
  second = 0;
  own = 0;
  bytes = reports_after (read_map map).map 0 bay_count;
}

-- the contract of each, which the code cites and `Determined` takes
abbrev pub BayPromise : List ℕ → ℕ → List ℕ → List ℕ → ℕ → Type 0
BayPromise map bay entry exit word = Answered (bay_answer map bay) entry exit word

abbrev pub BaysPromise : List ℕ → List ℕ → List ℕ → ℕ → Type 0
BaysPromise map entry exit word = Answered (bays_answer map) entry exit word
