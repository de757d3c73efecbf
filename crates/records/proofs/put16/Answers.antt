-- `put16` meets its contract.
use mathlib.Core.Path.{refl}
use native.Mathlib.Omega.{arith}
use Rattle.records.proofs.Placing.{placed_on}
use Rattle.records.proofs.put16.Goals as goal

pub returns : goal.returns
returns c =
    placed_on _ _ _ _ _ c.put8.ensures c.put8-2.ensures refl (omega arith)
