-- `write_waiting_keys` meets its contract: the least number that is left, again and again.
use Prim.Native.Nat.{◌^◌}
use Rattle.mapimage.proofs.Selecting.{select-start, select-room, select-on, select-end, select_kept}
use native.Mathlib.Omega.{arith}
use Rattle.delivery.proofs.write_waiting_keys.Goals as goal

pub loop-best-init : goal.loop-best-init
loop-best-init c = (c.least-best.ensures.1, select-start (2 ^ 40) _ _ _ c.least-best.ensures.1 c.least-best.ensures.0 c.requires)

pub overflow_cast-r : goal.overflow_cast-r
overflow_cast-r c = omega arith

pub overflow_cast-r-in-loop-best : goal.overflow_cast-r-in-loop-best
overflow_cast-r-in-loop-best c = omega arith

pub write_record-next-requires : goal.write_record-next-requires
write_record-next-requires c = let s = c.before.before in select-room
    (2 ^ 40) _ _ _ s.loop-best.invariant.0 s.loop-best.invariant.1 c.loop-best-test.true

pub overflow_add-best : goal.overflow_add-best
overflow_add-best c = omega arith

pub loop-best-smaller : goal.loop-best-smaller
loop-best-smaller c = let s = c.before.before.before.before.before.before in
    let r = (select-on (2 ^ 40) _ _ _ s.loop-best.invariant.0 s.loop-best.invariant.1 c.loop-best-test.true _
    c.write_record-next.ensures c.least-best-in-loop-best.ensures.0).1 in omega arith

pub loop-best-preserved : goal.loop-best-preserved
loop-best-preserved c = let s = c.before.before.before.before.before.before in (
  s.loop-best.invariant.0,
  (select-on (2 ^ 40) _ _ _ s.loop-best.invariant.0 s.loop-best.invariant.1 c.loop-best-test.true _
      c.write_record-next.ensures c.least-best-in-loop-best.ensures.0).0,
)

pub shape_of-out : goal.shape_of-out
shape_of-out c = let s = c.before in select_kept (2 ^ 40) _ _ _ s.loop-best.invariant.0 s.loop-best.invariant.1

pub returns : goal.returns
returns c = let s = c.before in select-end (2 ^ 40) _ _ _ s.loop-best.invariant.0 s.loop-best.invariant.1 c.loop-best-test.false
