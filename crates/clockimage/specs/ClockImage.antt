-- The image of a clock: a record of kind 1 for each dot.
use Rattle.std.specs.Prelude.{ℕ, ◌*◌, cond, List, [], eqb}
use Rattle.clock.specs.declared.Clock.{Clock}
use Rattle.clock.specs.declared.Dot.{Dot}
use Rattle.limits.specs.Limits.{dot_limit}
use Rattle.clock.specs.Dots.{dots_of, clock_of}
use Rattle.records.specs.declared.Record.{Record}
use Rattle.records.specs.Records.{bytes_of}
use Rattle.records.specs.Kinds.{clock_dot_kind}
use Rattle.scan.specs.Numbers.{scan_number}
use Rattle.clockimage.specs.Image.{is_kind, dot_records, dots_from, image_of}
use Rattle.std.specs.declared.result.Result.{Result}
use Rattle.refusals.specs.declared.Refusal.{Refusal}
use Rattle.refusals.specs.Numbers.{number_told, done_or}

abbrev pub clock_longest : ℕ
clock_longest = dot_limit * 16

abbrev pub clock_records : List Dot → List Record
clock_records l = dot_records clock_dot_kind 0 0 l

-- the image of a clock
abbrev pub clock_image : Clock → List ℕ
clock_image c = bytes_of (clock_records (dots_of c))

-- the dots that the records of a clock's image stand for
abbrev pub clock_in : List Record → List Dot
clock_in l = dots_from (is_kind clock_dot_kind) l

-- a number of 01, and the clock, which is empty where the number is not 0
pub record ReadClock : Type 0 where
  pub number : ℕ
  pub clock : Clock

-- what reading a clock answers
abbrev pub clock_reading : Result Clock Refusal → ReadClock
clock_reading r = record { number = number_told r; clock = done_or (clock_of []) r }

abbrev pub refused_clock : ℕ → ReadClock
refused_clock n = record { number = n; clock = clock_of [] }

-- the records of a clock's image: 1, 2, or the clock
abbrev pub judged_clock : List Record → ReadClock
judged_clock l =
    cond (eqb (scan_number clock_dot_kind clock_dot_kind l) 0) (record { number = 0; clock = clock_of (clock_in l) })
    (refused_clock (scan_number clock_dot_kind clock_dot_kind l))

-- what a list of bytes is as a clock's image
unfoldable pub read_clock : List ℕ → ReadClock
read_clock s = image_of clock_longest refused_clock judged_clock s
