-- `write_keys` meets its contract: a key a turn.
use native.Mathlib.Omega.{arith}
use Rattle.queued.proofs.Rowing.{keys-start, keys_kept, keys-room, keys_on, keys-end}
use Rattle.queued.proofs.rows.write_keys.Goals as goal

pub loop-i-init : goal.loop-i-init
loop-i-init c =
    let p = c.requires in
    ((p.3.order, p.3.within), ((p.4.order, p.4.within), λ w v result a b mv few room. keys-start a b room))

pub row-r-requires : goal.row-r-requires
row-r-requires c = let v = c.loop-i.invariant in (v.0, (v.1.0, c.loop-i-test.true))

pub write_row-next-requires : goal.write_row-next-requires
write_row-next-requires c =
    let t = c.before.before.before.before in
    let p = t.requires in
    let k = t.loop-i.invariant.1.1 p.0 p.1 p.2 p.3 p.4 p.5 p.6 p.7 in
    keys-room k p.6 (c.row-r.ensures.1 k.low p.0 p.1 p.2 k.first k.second p.5)

pub loop-i-preserved : goal.loop-i-preserved
loop-i-preserved c =
    let t = c.before.before.before.before.before.before.before in
    let e = c.row-r.ensures in
    let r = e.0 in (
      (omega arith, omega arith),
      (
        (omega arith, omega arith),
        λ w v result a b mv few room.
            let k = t.loop-i.invariant.1.1 w v result a b mv few room in
            keys_on k few (e.1 k.low w v result k.first k.second mv) c.write_row-next.ensures,
      ),
    )

pub shape_of-out : goal.shape_of-out
shape_of-out c =
    let t = c.before in
    let p = t.requires in
    keys_kept (t.loop-i.invariant.1.1 p.0 p.1 p.2 p.3 p.4 p.5 p.6 p.7)

pub returns : goal.returns
returns c = λ w v result a b mv few room. keys-end (c.loop-i.invariant.1.1 w v result a b mv few room) mv few c.loop-i-test.false
