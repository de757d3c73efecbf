-- `count_entries` meets its contract: the loop follows the definition.
use mathlib.Core.Path.{◌≡◌, sym, ◌∙◌}
use Prim.Native.Nat.{ℕ, ◌≤◌, ◌<◌}
use borrow.Author.Rules.{rules}
use borrow.Author.Tests.{not-true, not-false, ltb-true, ltb-false, lt-ltb}
use mathlib.Core.Bool.{true, false, ◌&&◌}
use lib.Dec.{ltb}
use Rattle.listlaws.proofs.Orders.{apart}
use Rattle.scan.proofs.Eachs.{decide, both, both_left, both_right}
use native.Mathlib.Omega.{arith}
use Rattle.limits.specs.Limits.{entry_limit}
use Rattle.walks.proofs.Loops.{enter-start, enter-fails, enter-on, enter-stops}
use mathlib.Core.Bool.{not}
use mathlib.Core.Path.{ap}
use Rattle.walks.proofs.count_entries.Goals as goal

-- a loop that ended with room left has no more records
over : (own third n m : ℕ) → (ltb own third && ltb n m) ≡ false → n < m → third ≤ own
over own third n m f h = decide (ltb own third) (λ t. apart (sym (both (ltb own third) (ltb n m) t (lt-ltb n m h)) ∙ f)) (λ u. ltb-false own third u)

going : (own third n : ℕ) → (ltb own third && ltb n entry_limit) ≡ true → (own < third) × (n < entry_limit)
going own third n t = (
  ltb-true own third (both_left (ltb own third) (ltb n entry_limit) t),
  ltb-true n entry_limit (both_right (ltb own third) (ltb n entry_limit) t),
)

pub loop-own-init : goal.loop-own-init
loop-own-init c = ((search rules), (search rules, enter-start _ _ _ _ _ _))

pub read_record-r-requires : goal.read_record-r-requires
read_record-r-requires c = let g = going c.loop-own.own c.args.l.third c.loop-own.n
    c.loop-own-test.true in omega arith

pub returns-then-not-good : goal.returns-then-not-good
returns-then-not-good c =
    let s = c.before.before.before.before.before.before in
    let g = going s.loop-own.own s.args.l.third s.loop-own.n c.loop-own-test.true in
    enter-fails _ _ _ _ _ _ s.loop-own.invariant.1.1 _ _ _ c.read_record-r.ensures
    c.own_end-q.ensures.0 c.values_end-v.ensures.0 g.1 g.0 (not-true _ (ap not c.if-not-good.true))

pub loop-own-smaller : goal.loop-own-smaller
loop-own-smaller c = let g = going c.loop-own.own
    c.args.l.third
    c.loop-own.n
    c.loop-own-test.true in omega (arith, g.1)

pub loop-own-preserved : goal.loop-own-preserved
loop-own-preserved c =
    let s = c.before.before.before.before.before.before.before.before in
    let g = going s.loop-own.own s.args.l.third s.loop-own.n
    c.loop-own-test.true in
    let own = c.own_end-q.ensures in
    let vs = c.values_end-v.ensures in (
      (own.1, (vs.1.0, (vs.1.1, omega (arith, g.1)))),
      (
        s.loop-own.invariant.1.0,
        enter-on _ _ _ _ _ _ s.loop-own.invariant.1.1 _ _ _ c.read_record-r.ensures own.0 vs.0
            g.1 g.0 own.1 vs.1.0 vs.1.1 (not-false _ (ap not c.if-not-good.false)),
      ),
    )

pub returns-then-own-third : goal.returns-then-own-third
returns-then-own-third c =
    let v = c.loop-own.invariant in
    let e = enter-stops _ _ _ _ _ _ v.1.1 v.0.0 v.0.1.0 v.0.1.1.0 (λ k. over _ _ _ _ c.loop-own-test.false k) in
    rw c.if-own-third.true at e

pub returns-else-own-third : goal.returns-else-own-third
returns-else-own-third c =
    let v = c.loop-own.invariant in
    let e = enter-stops _ _ _ _ _ _ v.1.1 v.0.0 v.0.1.0 v.0.1.1.0 (λ k. over _ _ _ _ c.loop-own-test.false k) in
    rw c.if-own-third.false at e
