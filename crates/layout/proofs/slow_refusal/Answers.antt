-- `slow_refusal` meets its contract: every record is handed to the scan.
use borrow.Author.Rules.{rules}
use native.Mathlib.Omega.{arith}
use lib.ListN.{length-set}
use Rattle.records.proofs.Feeding.{feed-start, feed-on}
use Rattle.scan.proofs.Scanning.{under-steps}
use Rattle.layout.proofs.Slow.{slow-start, slow-on, slow-good, slow-bad}
use Rattle.layout.proofs.slow_refusal.Goals as goal

pub loop-i-init : goal.loop-i-init
loop-i-init c = (search rules, feed-start _ (slow-start (c.new-scan.ensures 1 6)))

pub loop-i-preserved : goal.loop-i-preserved
loop-i-preserved c = (
  simp length-set (omega arith),
  feed-on _ c.loop-i.invariant.1 (omega arith)
      (λ l f. rw (← c.read_record-r.ensures)
      (slow-on l _ _ _ _ f (omega arith) c.take-scan.ensures (under-steps _ _ c.under.ensures))),
)

pub returns-in-Ok : goal.returns-in-Ok
returns-in-Ok c = slow-good c.loop-i.invariant.1 (omega arith) c.in-Ok.ensures

pub returns-in-Err : goal.returns-in-Err
returns-in-Err c = slow-bad c.loop-i.invariant.1 (omega arith) _ c.in-Err.ensures
