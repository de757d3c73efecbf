-- `least` meets its contract: the loop holds each removal against the least so far.
use lib.ListN.{get_or}
use Rattle.removals.proofs.Packs.{no_removal_read}
use Rattle.mapimage.specs.MapImage.{key_numbers}
use Rattle.mapimage.proofs.Flats.{flat-step, flat-end, least_start, least-all, least-end}
use native.Mathlib.Omega.{arith}
use Rattle.mapimage.proofs.least.Goals as goal

pub loop-i-init : goal.loop-i-init
loop-i-init c = least_start

pub loop-i-preserved : goal.loop-i-preserved
loop-i-preserved c =
    let w = get_or c.as_slice-w-items.result.now c.loop-i.i no_removal_read in
    let r = c.least_in-best.ensures in
    least-all (key_numbers c.loop-i.i w) c.loop-i.invariant (flat-step key_numbers _ _ no_removal_read c.loop-i-test.true) r.1 r.0

pub returns : goal.returns
returns c = rw (← c.as_slice-w-items.ensures) (least-end c.loop-i.invariant (flat-end key_numbers _ c.loop-i.i (omega arith)))
