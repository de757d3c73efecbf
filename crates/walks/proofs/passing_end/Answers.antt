-- `passing_end` meets its contract: the loop follows the definition.
use borrow.Author.Tests.{not-true, not-false}
use native.Mathlib.Omega.{arith}
use mathlib.Core.Bool.{not}
use mathlib.Core.Path.{◌≡◌, ap}
use Rattle.walks.proofs.Loops.{run-start, run_on, run-fails, run-stops}
use Rattle.walks.proofs.passing_end.Goals as goal

pub loop-i-init : goal.loop-i-init
loop-i-init g c = λ test told. run-start _ _ _ _

pub returns-then-not-good-clause-value : goal.returns-then-not-good-clause-value
returns-then-not-good-clause-value g c = λ test told.
    run-fails _ _ _ _ (c.loop-i.invariant test told) _ _ c.read_record-r.ensures (told _ _ c.passes.ensures)
    (omega arith) (omega arith) (not-true _ (ap not c.if-not-good.true))

pub loop-i-preserved : goal.loop-i-preserved
loop-i-preserved g c = λ test told.
    run_on _ _ _ _ (c.loop-i.invariant test told) _ _ c.read_record-r.ensures (told _ _ c.passes.ensures)
    (omega arith) (omega arith) (not-false _ (ap not c.if-not-good.false))

pub returns-clause-value : goal.returns-clause-value
returns-clause-value g c = λ test told.
    let e : c.min-top.result ≡ c.loop-i.i = omega arith in
    rw e (run-stops _ _ _ _ (c.loop-i.invariant test told) (λ k. omega arith))
