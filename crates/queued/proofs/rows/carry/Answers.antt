-- `carry` meets its contract: a mark a turn.
use lib.ListN.{length-set}
use native.Mathlib.Omega.{arith}
use Rattle.limits.specs.Limits.{waiting_limit}
use Rattle.queued.proofs.Rowing.{same_read, carry-start, carry-not, carry-past, carry-set, carry-end}
use borrow.Author.Rules.{rules}
use Rattle.queued.proofs.rows.carry.Goals.{then-marks-k+then-p-lt-WAITING, then-marks-k+else-p-lt-WAITING, else-marks-k}
use Rattle.queued.proofs.rows.carry.Goals as goal

pub loop-k-init : goal.loop-k-init
loop-k-init c = (search rules, carry-start)

pub loop-k-preserved : goal.loop-k-preserved
loop-k-preserved c =
    let g = c.loop-k.invariant in
    let to = same_read c.args.table c.loop-k.k 0 waiting_limit (search rules) in
    elim c.if-marks-k.branch [
      | then-marks-k+then-p-lt-WAITING z ↦
          rw z.out-is (simp length-set g.0, carry-set g.1 z.if-marks-k.true to (omega (arith, g.0, z.if-p-lt-WAITING.true)))
      | then-marks-k+else-p-lt-WAITING z ↦ rw z.out-is (g.0, carry-past g.1 z.if-marks-k.true to z.if-p-lt-WAITING.false)
      | else-marks-k z ↦ rw z.out-is (g.0, carry-not g.1 z.if-marks-k.false)
    ]

pub returns : goal.returns
returns c = carry-end c.loop-k.invariant.1 (omega arith) (omega arith)
