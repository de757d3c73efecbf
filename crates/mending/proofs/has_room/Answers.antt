-- `has_room` meets its contract: the loop looks for the key, and counts those of its united clock.
use mathlib.Core.Path.{◌≡◌}
use Prim.Native.Nat.{◌<◌, ◌/◌}
use native.Mathlib.Omega.{arith}
use lib.ListN.{length}
use Rattle.listlaws.specs.Sift.{sift}
use Rattle.mending.proofs.Rooming.{room-start, room-end, room-skip-at, room-other-at, room-more-at, room-found-at}
use Rattle.mending.proofs.has_room.Goals.{then-is_left+then-s-leads+else-s-r, then-is_left+else-s-leads, else-is_left}
use Rattle.mending.proofs.has_room.Goals as goal

pub loop-i-init : goal.loop-i-init
unfolding sift
loop-i-init c = (omega arith, room-start)

pub returns-then-s-r : goal.returns-then-s-r
returns-then-s-r c =
    let a = c.args in
    let p = c.requires in
    let h : c.loop-i.i < length a.image.now / 16 = omega (
      arith,
      c.loop-i-test.true,
      p.0,
    ) in
    room-found-at a.marks.now a.image.now a.leads.now p.1 p.2 p.3 a.r p.4 c.loop-i.i h
    c.is_left.ensures
    c.if-is_left.true
    c.read_record-s.ensures c.if-s-leads.true a.n
    c.loop-i-test.true c.if-s-r.true

pub returns : goal.returns
returns c =
    let a = c.args in
    let e : c.loop-i.i ≡ a.n = omega (arith, c.loop-i.auto.i-end, c.loop-i-test.false) in
    rw (← e) (room-end c.loop-i.invariant.1)

pub loop-i-preserved : goal.loop-i-preserved
loop-i-preserved c =
    let a = c.args in
    let p = c.requires in
    let g = c.loop-i.invariant in
    let h : c.loop-i.i < length a.image.now / 16 = omega (arith, c.loop-i-test.true, p.0) in
    elim c.if-is_left.branch [
      | then-is_left+then-s-leads+else-s-r w ↦
          rw w.count-is (
            omega (arith, g.0),
            room-more-at a.marks.now a.image.now a.leads.now p.1 p.2 p.3 a.r p.4 c.loop-i.i h c.is_left.ensures w.if-is_left.true
                w.read_record-s.ensures w.if-s-leads.true g.1 w.if-s-r.false,
          )
      | then-is_left+else-s-leads w ↦
          rw w.count-is (
            omega (arith, g.0),
            room-other-at a.marks.now a.image.now a.leads.now p.1 p.2 p.3 a.r p.4 c.loop-i.i h c.is_left.ensures w.if-is_left.true
                w.read_record-s.ensures g.1 w.if-s-leads.false,
          )
      | else-is_left w ↦
          rw w.count-is (
            omega (arith, g.0),
            room-skip-at a.marks.now a.image.now a.leads.now p.1 p.2 p.3 a.r p.4 c.loop-i.i h c.is_left.ensures g.1 w.if-is_left.false,
          )
    ]
