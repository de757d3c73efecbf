-- `write_told` meets its contract.
use mathlib.Core.Path.{refl}
use native.Mathlib.Omega.{arith}
use Rattle.records.proofs.Placing.{placed_on}
use Rattle.differing.proofs.telling.write_told.Goals as goal

pub returns : goal.returns
returns c =
    let at-put32 = c.before.before in
    let at-put8 = at-put32.before.before.before.before in
    record { left = placed_on _ _ _ _ _ at-put8.put8.ensures at-put32.put32.ensures refl (omega arith); ends = refl }
