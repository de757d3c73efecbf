-- `Keys::trail` meets its contract: the loop adds the rest, one key after the other.
use mathlib.Core.Path.{ap, sym, ◌∙◌}
use mathlib.Core.List.{◌++◌, map-id}
use Rattle.listlaws.proofs.SliceTrailing.{trailing-start, trailing-add, trailing-end}
use Rattle.removals.proofs.KeyLimits.{growing-none}
use native.Mathlib.Omega.{arith}
use Rattle.removals.proofs.Keys.trail.Goals as goal

pub loop-k-init : goal.loop-k-init
loop-k-init c = λ l e. trailing-start l (ap (λ k. l ++ k) (sym (map-id _))) e

pub returns-in_err-out : goal.returns-in_err-out
returns-in_err-out c = λ l e.
    let t = trailing-add 0 (c.loop-k.invariant l e) c.loop-k-test.true c.grow.ensures in
    c.from_residual.ensures ∙ growing-none (rw c.in_err-out.was at t).growing

pub loop-k-preserved : goal.loop-k-preserved
loop-k-preserved c = λ l e.
    let t = trailing-add 0 (c.loop-k.invariant l e) c.loop-k-test.true c.grow.ensures in
    rw c.in_ok-out.was at t

pub returns : goal.returns
returns c = λ l e. trailing-end (c.loop-k.invariant l e) (omega arith)
