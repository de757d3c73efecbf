-- `give_map` meets its contract: each way out is a law of `Answers`.
use mathlib.Core.Path.{refl}
use Rattle.refusals.proofs.Handed.{handed, number-some}
use Rattle.answers.proofs.Lengths.{length-image}
use Rattle.answers.proofs.Answers.{number-own, number_short, number-done, refuses, writes}
use native.Mathlib.Omega.{arith}
use Rattle.answers.proofs.give_map.Goals as goal

pub returns-in_err-map : goal.returns-in_err-map
returns-in_err-map c =
    rw (handed c.from_residual.result _ c.from_residual.ensures.1, c.in_err-map.was)
    (refuses _ _ (number-own _ _ refl refl refl (number-some _)) (number-some _), tt)

pub returns-then-out-map_length : goal.returns-then-out-map_length
returns-then-out-map_length c =
    let e = length-image (rw c.in_ok-map.was at c.requires) c.map_length.ensures.1.1 in
    rw c.in_ok-map.was (refuses _ _ (number_short _ _ refl refl refl (omega arith)) (λ z. absurd (omega arith)), tt)

pub write_map-requires : goal.write_map-requires
write_map-requires c =
    let e = length-image (rw c.in_ok-map.was at c.requires) c.map_length.ensures.1.1 in
    omega arith

pub returns : goal.returns
returns c =
    let e = length-image (rw c.in_ok-map.was at c.requires) c.map_length.ensures.1.1 in
    rw c.in_ok-map.was (writes _ _ (number-done _ _ refl refl refl (omega arith)) c.write_map.ensures, omega (arith, c.write_map.ensures.ends))
