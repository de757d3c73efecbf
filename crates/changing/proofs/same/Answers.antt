-- `same` meets its contract: the image of a map that was read is its own.
use mathlib.Core.Path.{refl, ap}
use lib.ListN.{length}
use native.Mathlib.Omega.{arith}
use Rattle.maprecords.specs.Related.{read_map}
use Rattle.answers.proofs.Answers.{number_short, number-done, refuses, writes}
use Rattle.promises.specs.Calls.{map_answer}
use Rattle.oneimagelaws.proofs.Maps.{one-map-image}
use Rattle.changing.proofs.same.Goals as goal

pub returns-then-out-map : goal.returns-then-out-map
returns-then-out-map f =
    let a = f.args in
    let e = (one-map-image.again a.map.now (λ i. (f.type_inv.map i).fits)
    f.requires).1 in
    let x = map_answer 0 0 (record { number = 0; map = (read_map a.map.now).map }) in
    refuses x a.out.now (number_short x a.out.now refl refl refl (omega (arith, ap length e, f.if-out-map.true))) (λ z. omega arith)

pub returns : goal.returns
returns f =
    let a = f.args in
    let e = (one-map-image.again a.map.now (λ i. (f.type_inv.map i).fits)
    f.requires).1 in
    let x = map_answer 0 0 (record { number = 0; map = (read_map a.map.now).map }) in
    writes x a.out.now (number-done x a.out.now refl refl refl (omega (arith, ap length e, f.if-out-map.false)))
    (rw e f.copy_run.ensures)
