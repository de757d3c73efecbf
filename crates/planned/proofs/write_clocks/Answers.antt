-- `write_clocks` meets its contract: a removal a turn.
use mathlib.Core.Path.{◌≡◌, ap}
use Prim.Native.Nat.{◌<◌}
use lib.ListN.{length, get_or, length-map, length-take}
use lib.Seq.{get_or-take}
use Rattle.limits.specs.Limits.{waiting_limit}
use Rattle.listlaws.proofs.Pads.{unmapped}
use Rattle.removals.specs.Model.{no_removal, under_of}
use Rattle.records.proofs.Writing.{write-start, write-room, write-on, write-end}
use Rattle.clockimage.specs.Image.{dot_record}
use Rattle.mapimage.specs.MapImage.{waiting_dots}
use Rattle.planned.specs.Planned.{no_held}
use Rattle.planned.proofs.Planning.{plan-places, plan-within, plan-dots, dots-next, dots-end}
use borrow.Author.Rules.{rules}
use native.Mathlib.Omega.{arith}
use Rattle.planned.proofs.write_clocks.Goals as goal

pub loop-i-init : goal.loop-i-init
loop-i-init c = λ w v result h room. write-start _ _ _ room

pub write_held-next-requires : goal.write_held-next-requires
write_held-next-requires c =
    let p = c.requires in
    let h = p.1.3 in
    let result = p.1.2 in
    let n = c.places.result in
    let i = c.loop-i.i in
    let k : i < n = omega (arith, c.loop-i-test.true, length-take n c.args.p.items) in
    let e = plan-places h p.0 c.places.ensures in
    let inside : i < length result = omega arith in
    rw (get_or-take n c.args.p.items i no_held k) (
      plan-within h p.0 inside,
      omega (
        arith,
        ap length (plan-dots h p.0 inside),
        (write-room _ _ _ (waiting_dots i (get_or result i no_removal)) _ (c.loop-i.invariant _ _ result h p.1.4) (dots-next result i inside)).0,
        length-map (under_of (get_or result i no_removal)) (dot_record 5 i 0),
      ),
    )

pub loop-i-preserved : goal.loop-i-preserved
loop-i-preserved c = λ w v result h room.
    let p = c.requires in
    let n = c.places.result in
    let i = c.loop-i.i in
    let k : i < n = omega (arith, c.loop-i-test.true, length-take n c.args.p.items) in
    let e = plan-places h p.0 c.places.ensures in
    let inside : i < length result = omega arith in
    write-on _ _ _ (waiting_dots i (get_or result i no_removal)) (c.loop-i.invariant w v result h room) (dots-next result i inside)
    (rw (get_or-take n c.args.p.items i no_held k, plan-dots h p.0 inside) at c.write_held-next.ensures)

pub returns : goal.returns
returns c = λ w v result h room.
    let items = c.args.p.items in
    let all : length items ≡ waiting_limit = search (rules, unmapped) in
    let e = plan-places h c.requires.0 c.places.ensures in
    write-end _ _ _ (c.loop-i.invariant w v result h room)
    (dots-end result c.loop-i.i (omega (arith, c.loop-i-test.false, length-take c.places.result items, c.places.ensures.0)))
