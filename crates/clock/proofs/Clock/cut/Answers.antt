-- `Clock::cut` meets its contract, by that of `sift`, and by the sizes before and after.
use mathlib.Core.Path.{◌≡◌, ap, ap₂}
use Prim.Native.Nat.{◌-◌}
use Rattle.clock.specs.Dots.{dots_of, clock_of, cut_dots}
use Rattle.clock.proofs.Packs.{cut-length}
use native.Mathlib.Omega.{arith}
use Rattle.clock.proofs.Clock.cut.Goals.{After-size}
use Rattle.clock.proofs.Clock.cut.Goals as goal

-- what the sift leaves
left : (c : After-size) → c.sift-left.result ≡ clock_of (cut_dots
    (dots_of c.args.by) (dots_of c.args.self))
unfolding cut_dots
left c = c.sift-left.ensures

pub overflow_sub-deleted : goal.overflow_sub-deleted
overflow_sub-deleted c =
    let z = c.args in
    omega (arith, ap (λ k. k.len) (left c.before), cut-length (dots_of z.by) (dots_of z.self), c.size.ensures.0)

pub returns : goal.returns
returns c =
    let l = left c.before in
    λ i. record { clock = l i; deleted = ap₂ (λ n k. n - k.len) c.size.ensures.0 l i }
