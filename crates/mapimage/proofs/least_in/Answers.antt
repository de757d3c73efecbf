-- `least_in` meets its contract: the loop holds each number against the least so far.
use mathlib.Core.Path.{ap, ◌∙◌}
use mathlib.Core.List.{map}
use Prim.Native.Nat.{◌^◌}
use borrow.Author.Tests.{lt-ltb}
use Rattle.listlaws.proofs.SliceRests.{map_on, drop-end}
use Rattle.mapimage.specs.Least.{lesser}
use Rattle.mapimage.specs.MapImage.{key_number}
use Rattle.mapimage.proofs.Flats.{least_start, least_on, least-end}
use native.Mathlib.Omega.{arith}
use Rattle.mapimage.proofs.least_in.Goals as goal

pub loop-k-init : goal.loop-k-init
loop-k-init c = least_start

pub loop-k-preserved : goal.loop-k-preserved
loop-k-preserved c =
    let n = c.key_number.ensures in
    least_on c.loop-k.invariant (map_on _ _ 0 c.loop-k-test.true (key_number c.args.index)) (lt-ltb _ (2 ^ 40) (rw n.0 at n.1))
    (c.lesser-best.ensures ∙ ap (lesser c.args.low c.loop-k.best) n.0)

pub returns : goal.returns
returns c =
    rw (← c.as_slice-k-items.ensures)
    (least-end c.loop-k.invariant (ap (map (key_number c.args.index)) (drop-end _ c.loop-k.k-index (omega arith))))
