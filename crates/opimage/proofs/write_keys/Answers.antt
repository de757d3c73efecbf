-- `write_keys` meets its contract: a record for each key, one behind the other.
use mathlib.Core.Path.{ap}
use mathlib.Core.List.{[], ◌∷◌, map}
use lib.ListN.{get_or, length-map}
use Rattle.listlaws.proofs.SliceRests.{map_on, drop-end}
use Rattle.removals.specs.Model.{keys_of}
use Rattle.records.proofs.Writing.{write-start, write-room, write-on, write-end, wrote_one}
use Rattle.opimage.specs.OpImage.{key_record}
use native.Mathlib.Omega.{arith}
use Rattle.opimage.proofs.write_keys.Goals as goal

pub loop-k-init : goal.loop-k-init
loop-k-init c =
    let a = c.args in
    write-start _ _ _ (rw (c.as_slice-k-items.ensures, length-map (keys_of a.keys) (key_record a.kind a.index)) c.requires)

pub write_record-next-requires : goal.write_record-next-requires
write_record-next-requires c =
    let f = key_record c.args.kind c.args.index in
    let k = get_or c.as_slice-k-items.result.now c.loop-k.k-index 0 in
    (write-room _ _ _ (f k ∷ []) _ c.loop-k.invariant (map_on _ _ 0 c.loop-k-test.true f)).0

pub loop-k-preserved : goal.loop-k-preserved
loop-k-preserved c =
    let f = key_record c.args.kind c.args.index in
    let r = f (get_or c.as_slice-k-items.result.now c.loop-k.k-index 0) in
    write-on _ _ _ (r ∷ []) c.loop-k.invariant (map_on _ _ 0 c.loop-k-test.true f) (wrote_one r _ _ _ _ c.write_record-next.ensures)

pub returns : goal.returns
returns c =
    let f = key_record c.args.kind c.args.index in
    rw (← c.as_slice-k-items.ensures) (write-end _ _ _ c.loop-k.invariant (ap (map f) (drop-end _ c.loop-k.k-index (omega arith))))
