-- What a reader of a clock's image holds after some records.
use Rattle.std.specs.Prelude.{◌≡◌, List}
use Rattle.clock.specs.Dots.{clock_of}
use Rattle.records.specs.declared.Record.{Record}
use Rattle.records.specs.Kinds.{clock_dot_kind}
use Rattle.scan.specs.Scanned.{Scanned}
use Rattle.clockimage.specs.declared.ClockReader.{ClockReader}
use Rattle.clockimage.specs.ClockImage.{clock_in}

-- what a reader holds after some records
pub record ClockSoFar (l : List Record) (s : ClockReader) : Type 0 where
  pub scanned : Scanned clock_dot_kind clock_dot_kind l s.scan
  pub clock : s.scan.number ≡ 0 → s.clock ≡ clock_of (clock_in l)
