-- `count_keys` meets its contract: the least number that is left, again and again.
use mathlib.Core.Path.{sym, ◌∙◌}
use Prim.Native.Nat.{◌^◌}
use lib.ListN.{length-map}
use Rattle.mapimage.specs.MapImage.{flat_from, key_numbers, number_record}
use Rattle.mapimage.specs.Sorted.{in_order}
use Rattle.memory.specs.Memory.{waiting_at}
use Rattle.delivery.proofs.Counting.{counting-start, counting-on, counting-end}
use native.Mathlib.Omega.{arith}
use Rattle.delivery.proofs.count_keys.Goals as goal

pub loop-best-init : goal.loop-best-init
loop-best-init c = (c.least-best.ensures.1, counting-start (2 ^ 40) _ c.least-best.ensures.1 c.least-best.ensures.0)

pub overflow_add-total : goal.overflow_add-total
overflow_add-total c = omega (arith, c.loop-best.invariant.1.most)

pub loop-best-smaller : goal.loop-best-smaller
loop-best-smaller c =
    let s = c.before.before in
    let r = (counting-on (2 ^ 40) _ s.loop-best.invariant.0 s.loop-best.invariant.1 c.loop-best-test.true _ c.least-best-in-loop-best.ensures.0).1 in
    omega arith

pub loop-best-preserved : goal.loop-best-preserved
loop-best-preserved c =
    let s = c.before.before in (
      s.loop-best.invariant.0,
      (counting-on (2 ^ 40) _ s.loop-best.invariant.0 s.loop-best.invariant.1 c.loop-best-test.true _
          c.least-best-in-loop-best.ensures.0).0,
    )

pub returns : goal.returns
returns c =
    let s = c.before in
    let w = s.args.mem.now in
    let r = counting-end (2 ^ 40) _ s.loop-best.invariant.0 s.loop-best.invariant.1 c.loop-best-test.false in
    (r.0 ∙ sym (length-map (in_order (flat_from key_numbers 0 (waiting_at w))) number_record), r.1)
