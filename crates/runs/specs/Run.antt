-- What a run of records says.
use Rattle.std.specs.Prelude.{List, map, ℕ}
use Rattle.clock.specs.declared.Dot.{Dot}
use Rattle.records.specs.Records.{records_of}
use Rattle.clockimage.specs.Image.{dot_of}

-- the dots of its records, in order
abbrev pub run_dots : List ℕ → List Dot
run_dots s = map dot_of (records_of s)
