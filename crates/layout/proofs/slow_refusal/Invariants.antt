-- `slow_refusal` meets its contract: every record is handed to the scan.
use mathlib.Core.Path.{◌≡◌}
use lib.ListN.{length}
use Rattle.records.proofs.Feeding.{Feeding}
use Rattle.layout.proofs.Slow.{Slow}
use Rattle.layout.proofs.slow_refusal.Given as goal

abbrev pub invariant-loop-i : goal.invariant-loop-i
invariant-loop-i l = (length l.under ≡ 256) × Feeding Slow l.s l.i (record { scan = l.scan; under = l.under })
