-- `JoinedWaiting::trail` meets its contract: the loop adds the rest, one removal after the other.
use mathlib.Core.Path.{ap, sym}
use mathlib.Core.List.{◌++◌, map-id}
use Rattle.listlaws.proofs.SliceRests.{in_list}
use Rattle.listlaws.proofs.SliceTrailing.{trailing-start, trailing-add, trailing-end}
use Rattle.removals.proofs.Packs.{no_removal_read}
use native.Mathlib.Omega.{arith}
use Rattle.removals.proofs.JoinedWaiting.trail.Goals as goal

pub loop-r-init : goal.loop-r-init
loop-r-init c = (omega arith, λ l laid e. trailing-start l (ap (λ k. l ++ k) (sym (map-id _))) e)

pub loop-r-preserved : goal.loop-r-preserved
loop-r-preserved c =
    let h = c.loop-r-test.true in (
      omega (arith, c.keep-out.ensures.0, c.loop-r.invariant.0),
      λ l laid e.
          trailing-add no_removal_read (c.loop-r.invariant.1 l laid e) h
          (λ m q. c.keep-out.ensures.1 m q (laid _ (in_list _ _ no_removal_read h))),
    )

pub returns : goal.returns
returns c = (omega (arith, c.loop-r.invariant.0), λ l laid e. trailing-end (c.loop-r.invariant.1 l laid e) (omega arith))
