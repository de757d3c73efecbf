-- Where the dots of a register's values lie in an image.
use Rattle.std.specs.Prelude.{◌≡◌, List, map, ℕ, ◌+◌, ◌*◌, ◌-◌, ◌≤◌, ◌<◌, length, get_or}
use Rattle.clock.specs.Dots.{dots_of}
use Rattle.clock.specs.Lawful.{Lawful}
use Rattle.register.specs.declared.Value.{Value}
use Rattle.limits.specs.Limits.{value_limit}
use Rattle.register.specs.Values.{no_value}
use Rattle.records.specs.Records.{records_from}
use Rattle.clockimage.specs.Image.{dot_of}

-- the dots of a value are those of the records from a place to another, within s
pub record RunOf (s : List ℕ) (from to : ℕ) (v : Value) : Type 0 where
  pub order : from ≤ to
  pub within : to * 16 ≤ length s
  pub dots : map dot_of (records_from s (from * 16) (to - from)) ≡ dots_of v.clock
  pub lawful : Lawful (dots_of v.clock)

-- the n values of a list: the run of the value at j goes from starts[j] to starts[j + 1]
pub record RunsOf (s starts : List ℕ) (n : ℕ) (l : List Value) : Type 0 where
  pub count : n ≡ length l
  pub few : length l ≤ value_limit
  pub each : (j : ℕ) → j < n → RunOf s (get_or starts j 0) (get_or starts (j + 1) 0) (get_or l j no_value)
