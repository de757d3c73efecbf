-- `counted` meets its contract.
use mathlib.Core.Path.{ap}
use lib.ListN.{set}
use native.Mathlib.Omega.{arith}
use Rattle.opimage.proofs.counted.Goals as goal

pub returns-then-counts-k-lt2 : goal.returns-then-counts-k-lt2
returns-then-counts-k-lt2 c = ap (set c.args.counts c.args.kind) (omega arith)

pub returns-else-counts-k-lt2 : goal.returns-else-counts-k-lt2
returns-else-counts-k-lt2 c = ap (set c.args.counts c.args.kind) (omega arith)
