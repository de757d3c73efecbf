-- `Wide::settle` meets its contract, by that of `narrow`.
use mathlib.Core.Path.{sym}
use Rattle.register.proofs.Packs.{fits, exceeds}
use native.Mathlib.Omega.{arith}
use Rattle.register.proofs.Wide.settle.Goals as goal

pub returns-then-size-le-VALUES : goal.returns-then-size-le-VALUES
returns-then-size-le-VALUES c = rw c.narrow-register.ensures (sym (fits _ (omega arith)))

pub returns : goal.returns
returns c = rw c.new-none.ensures (sym (exceeds _ (omega arith)))
