-- `write_clock` meets its contract.
use lib.ListN.{length-map}
use Rattle.clock.specs.Dots.{dots_of}
use Rattle.clockimage.specs.Image.{dot_record, dot_records}
use Rattle.records.proofs.RoundTrips.{length-bytes}
use native.Mathlib.Omega.{arith}
use Rattle.clockimage.proofs.write_clock.Goals as goal

pub write_dots-requires : goal.write_dots-requires
write_dots-requires c =
    let a = c.args in
    omega (arith, length-bytes (dot_records 1 0 0 (dots_of a.clock)), length-map (dots_of a.clock) (dot_record 1 0 0))
