-- `write_update` meets its contract: head, value, dots.
use mathlib.Core.Path.{refl}
use mathlib.Core.List.{[], ◌∷◌}
use lib.ListN.{length-map}
use Rattle.clock.specs.Dots.{dots_of}
use Rattle.clockimage.specs.Image.{dot_record}
use Rattle.records.proofs.Writing.{write-start, write-on, write-last, last-room, wrote_one}
use Rattle.opimage.specs.OpImage.{update_head, put_value, update_records}
use native.Mathlib.Omega.{arith}
use Rattle.opimage.proofs.write_update.Goals as goal

pub write_dots-requires : goal.write_dots-requires
write_dots-requires c =
    let u = c.args.update in
    let w0 = write-start (update_records u) 0
    c.args.out.now
    (omega (arith, c.requires)) in
    let w1 = write-on _ _ _ (update_head u ∷ []) w0 refl (wrote_one _ _ _ _ _
    c.write_record-first.ensures) in
    let w2 = write-on _ _ _ (put_value u ∷ []) w1 refl (wrote_one _ _ _ _ _ c.write_record-second.ensures) in
    omega (arith, last-room _ _ _ _ w2, length-map (dots_of u.put.clock) (dot_record 12 0 0))

pub returns : goal.returns
returns c =
    let u = c.args.update in
    let w0 = write-start (update_records u) 0
    c.args.out.now (omega (
      arith,
      c.requires,
    )) in
    let w1 = write-on _ _ _ (update_head u ∷ []) w0 refl (wrote_one _ _ _ _ _
    c.write_record-first.ensures) in
    let w2 = write-on _ _ _ (put_value u ∷ []) w1 refl (wrote_one _ _ _ _ _
    c.write_record-second.ensures) in
    write-last _ _ _ _ w2 c.write_dots.ensures
