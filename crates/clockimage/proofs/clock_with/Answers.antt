-- `clock_with` meets its contract: a clock with room takes the dot.
use mathlib.Core.Path.{ap, sym, ◌∙◌}
use Prim.Native.Nat.{◌<◌}
use borrow.Author.Tests.{ltb-true, lt-ltb}
use Rattle.limits.specs.Limits.{dot_limit}
use Rattle.scan.proofs.Eachs.{decide, both, both_left, both_right}
use Rattle.listlaws.proofs.Orders.{apart}
use native.Mathlib.Omega.{arith}
use Rattle.clockimage.proofs.clock_with.Goals as goal

pub push-requires : goal.push-requires
push-requires c = ltb-true _ _ (both_right c.args.more _ c.if-more-clock.true)

pub returns-then-more-clock : goal.returns-then-more-clock
returns-then-more-clock c l e room = rw (both_left c.args.more _ c.if-more-clock.true) (c.push.ensures l e)

-- a clock with more to come has room
pub returns : goal.returns
returns c l e room =
    let a = c.args in
    decide a.more
    (λ t. let q : a.clock.len < dot_limit = omega (arith, room t, ap (λ k. k.len) e) in
    apart (sym (both a.more _ t (lt-ltb _ _ q)) ∙ c.if-more-clock.false))
    (λ f. rw f e)
