-- `give_op` meets its contract: each way out is a law of `Answers`.
use mathlib.Core.Path.{refl}
use Rattle.refusals.proofs.Handed.{handed, number-some}
use Rattle.answers.proofs.Answers.{number-own, number_short, number-done, refuses, writes}
use native.Mathlib.Omega.{arith}
use Rattle.answers.proofs.give_op.Goals as goal

pub returns-in_err-op : goal.returns-in_err-op
returns-in_err-op c =
    rw (handed c.from_residual.result _ c.from_residual.ensures.1, c.in_err-op.was)
    (refuses _ _ (number-own _ _ refl refl refl (number-some _)) (number-some _), tt)

pub returns-then-out-op_length : goal.returns-then-out-op_length
returns-then-out-op_length c =
    rw c.in_ok-op.was (refuses _ _ (number_short _ _ refl refl refl (omega arith)) (λ z. absurd (omega arith)), tt)

pub write_op-requires : goal.write_op-requires
write_op-requires c = omega arith

pub returns : goal.returns
returns c =
    rw c.in_ok-op.was (writes _ _ (number-done _ _ refl refl refl (omega arith)) c.write_op.ensures, omega (arith, c.write_op.ensures.ends))
