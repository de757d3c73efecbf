-- `least_in` meets its contract: the loop holds each number against the least so far.
use mathlib.Core.Path.{ap, ◌∙◌}
use mathlib.Core.List.{map}
use Prim.Native.Nat.{◌^◌}
use borrow.Author.Tests.{lt-ltb}
use Rattle.mapimage.specs.Least.{lesser}
use Rattle.mapimage.specs.MapImage.{key_number}
use Rattle.mapimage.proofs.Flats.{least_start, least_on, least-end}
use Rattle.delivery.proofs.Views.{numbers-listed, listed-left, listed-end}
use native.Mathlib.Omega.{arith}
use Rattle.delivery.proofs.least_in.Goals as goal

pub loop-i-init : goal.loop-i-init
loop-i-init c = rw (← numbers-listed c.args.mem.now c.args.k) least_start

pub loop-i-preserved : goal.loop-i-preserved
loop-i-preserved c =
    let a = c.args in
    let e = ap (map (key_number a.k)) (listed-left a.mem.now a.k c.loop-i.i (omega arith)) in
    let n = c.key_number.ensures.0 ∙ ap (key_number a.k) c.read32-key.ensures in
    least_on c.loop-i.invariant e (lt-ltb _ (2 ^ 40) (rw n at c.key_number.ensures.1))
    (c.lesser-best.ensures ∙ ap (lesser a.low c.loop-i.best) n)

pub returns : goal.returns
returns c =
    let a = c.args in
    least-end c.loop-i.invariant (ap (map (key_number a.k)) (listed-end a.mem.now a.k c.loop-i.i (omega arith)))
