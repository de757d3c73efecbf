-- `values_end` meets its contract: the loop follows the definition.
use borrow.Author.Rules.{rules}
use borrow.Author.Tests.{not-true, not-false}
use native.Mathlib.Omega.{arith}
use Rattle.walks.proofs.Loops.{values-start, values-fail, values-lack, values-on, values-stop}
use mathlib.Core.Bool.{not}
use mathlib.Core.Path.{◌≡◌, ap}
use Rattle.walks.proofs.values_end.Goals as goal

pub loop-i-init : goal.loop-i-init
loop-i-init c = (search rules, values-start _ _ _ _ _ _)

pub returns-then-not-value_test : goal.returns-then-not-value_test
returns-then-not-value_test c =
    let s = c.before.before.before.before in (
      values-fail _ _ _ _ _ _ s.loop-i.invariant.1 _ _ c.read_record-r.ensures c.value_test.ensures (omega arith)
          (omega arith) (not-true _ (ap not c.if-not-value_test.true)),
      (omega arith, omega arith),
    )

pub returns-then-q-eq0 : goal.returns-then-q-eq0
returns-then-q-eq0 c =
    let s = c.before.before.before.before.before.before in (
      values-lack _ _ _ _ _ _ s.loop-i.invariant.1 _ _ c.read_record-r.ensures
          c.value_test.ensures (omega arith) (omega arith) _ c.run_end-q.ensures.0 (omega arith)
          (not-false _ (ap not c.if-not-value_test.false)) c.if-q-eq0.true,
      (omega arith, omega arith),
    )

pub loop-i-preserved : goal.loop-i-preserved
loop-i-preserved c =
    let s = c.before.before.before.before.before.before in (
      omega arith,
      values-on _ _ _ _ _ _ s.loop-i.invariant.1 _ _
          c.read_record-r.ensures c.value_test.ensures (omega arith) (omega arith) _
          c.run_end-q.ensures.0 (omega arith) (not-false _ (ap not c.if-not-value_test.false)) c.if-q-eq0.false,
    )

pub returns : goal.returns
returns c =
    let e : c.min-top.result ≡ c.loop-i.i = omega arith in
    (rw e (values-stop _ _ _ _ _ _ c.loop-i.invariant.1 (λ k. omega arith)), (omega arith, omega arith))
