-- `least` meets its contract: the loop holds each removal against the least so far.
use mathlib.Core.Path.{ap}
use Rattle.mapimage.specs.MapImage.{flat_from, key_numbers}
use Rattle.mapimage.proofs.Flats.{least_start, least-all, least-end}
use Rattle.memory.specs.Memory.{removal_at}
use Rattle.delivery.proofs.Views.{waiting-left, waiting-end}
use native.Mathlib.Omega.{arith}
use Rattle.delivery.proofs.least.Goals as goal

pub loop-k-init : goal.loop-k-init
loop-k-init c = least_start

pub loop-k-preserved : goal.loop-k-preserved
unfolding flat_from
loop-k-preserved c =
    let w = c.args.mem.now in
    let e = ap (flat_from key_numbers c.loop-k.k) (waiting-left w c.loop-k.k (omega arith)) in
    least-all (key_numbers c.loop-k.k (removal_at w c.loop-k.k)) c.loop-k.invariant e c.least_in-best.ensures.1
    c.least_in-best.ensures.0

pub returns : goal.returns
unfolding flat_from
returns c =
    let w = c.args.mem.now in
    least-end c.loop-k.invariant (ap (flat_from key_numbers c.loop-k.k) (waiting-end w c.loop-k.k (omega arith)))
