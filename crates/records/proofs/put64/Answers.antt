-- `put64` meets its contract.
use mathlib.Core.Path.{refl}
use native.Mathlib.Omega.{arith}
use Rattle.records.proofs.Placing.{placed_on}
use Rattle.records.proofs.put64.Goals as goal

pub returns : goal.returns
returns c =
    placed_on _ _ _ _ _ c.put32.ensures c.put32-2.ensures refl (omega arith)
