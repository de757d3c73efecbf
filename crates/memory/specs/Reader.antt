-- A memory as the state of a reader.
use Rattle.std.specs.Prelude.{not, List, map, ℕ, ◌+◌, eqb}
use Rattle.records.specs.Bytes.{num_at}
use Rattle.maprecords.specs.Reading.{numbers_below}
use Rattle.maprecords.specs.SoFar.{ReaderState}
use Rattle.memory.specs.Memory.{under_place, lost_place, clock_place, scan_at, dots_at, entries_at, waiting_at}

-- the waiting keys under each index
unfoldable pub under_at : List ℕ → List ℕ
under_at w = map (λ i. num_at 0 (under_place + i) w) (numbers_below 256)

abbrev pub reader_at : List ℕ → ReaderState
reader_at w = record {
  scan = scan_at w;
  under = under_at w;
  lost = not (eqb (num_at 0 lost_place w) 0);
  clock = dots_at w clock_place;
  entries = entries_at w;
  waiting = waiting_at w;
}
