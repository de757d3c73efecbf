-- `write_told` meets its contract: the place and the step, one behind the other.
use mathlib.Core.Path.{refl}
use mathlib.Core.List.{◌++◌, append-nil}
use native.Mathlib.Omega.{arith}
use Rattle.records.specs.Bytes.{num_bytes}
use Rattle.records.proofs.Placing.{placed_on}
use Rattle.salvagerules.specs.Report.{told_bytes}
use Rattle.salvage.proofs.write_told.Goals as goal

pub returns : goal.returns
unfolding told_bytes
returns c =
    let a = c.args in
    rw (append-nil (num_bytes 2 a.place ++ num_bytes 0 a.step))
    (record {
      left = placed_on _ _ _ _ _ c.put32.ensures
          c.put8.ensures refl (omega arith);
      ends = refl;
    })
