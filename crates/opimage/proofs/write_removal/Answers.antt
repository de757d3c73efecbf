-- `write_removal` meets its contract: head, dots, keys.
use mathlib.Core.Path.{refl}
use mathlib.Core.List.{[], ◌∷◌, map}
use lib.ListN.{length-map}
use Rattle.clockimage.specs.Image.{dot_record, dot_records}
use Rattle.removals.specs.Model.{under_of, listed_in}
use Rattle.records.proofs.Writing.{write-start, write-room, write-on, write-last, last-room, wrote_one}
use Rattle.opimage.specs.OpImage.{key_record, removal_head, removal_records}
use native.Mathlib.Omega.{arith}
use Rattle.opimage.proofs.write_removal.Goals as goal

pub write_dots-second-requires : goal.write_dots-second-requires
write_dots-second-requires c =
    let r = c.args.removal in
    let w0 = write-start (removal_records r) 0 c.args.out.now
    (omega (arith, c.requires)) in
    let w1 = write-on _ _ _ (removal_head ∷ []) w0 refl (wrote_one _ _ _ _ _ c.write_record-first.ensures) in
    omega (
      arith,
      (write-room _ _ _ (dot_records 8 0 0 (under_of r)) (map (key_record 9 0) (listed_in r)) w1 refl).0,
      length-map (under_of r) (dot_record 8 0 0),
    )

pub write_keys-requires : goal.write_keys-requires
write_keys-requires c =
    let r = c.args.removal in
    let w0 = write-start (removal_records r) 0
    c.args.out.now
    (omega (arith, c.requires)) in
    let w1 = write-on _ _ _ (removal_head ∷ []) w0 refl (wrote_one _ _ _ _ _
    c.write_record-first.ensures) in
    let w2 = write-on _ _ _ (dot_records 8 0 0 (under_of r)) w1 refl c.write_dots-second.ensures in
    omega (arith, last-room _ _ _ _ w2, length-map (listed_in r) (key_record 9 0))

pub returns : goal.returns
returns c =
    let r = c.args.removal in
    let w0 = write-start (removal_records r) 0
    c.args.out.now
    (omega (
      arith,
      c.requires,
    )) in
    let w1 = write-on _ _ _ (removal_head ∷ []) w0 refl (wrote_one _ _ _ _ _
    c.write_record-first.ensures) in
    let w2 = write-on _ _ _ (dot_records 8 0 0 (under_of r)) w1 refl c.write_dots-second.ensures in
    write-last _ _ _ _ w2 c.write_keys.ensures
