-- `is_empty` meets its contract, by that of `len`.
use mathlib.Core.Path.{ap}
use lib.Dec.{eqb}
use Rattle.asking.proofs.is_empty.Goals as goal

pub returns : goal.returns
returns c = ap (λ n. eqb n 0) c.len.ensures.0
