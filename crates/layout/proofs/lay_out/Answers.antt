-- `lay_out` meets its contract: where the walks accept, the sections are those of the map that is read; where not, no map has them.
use mathlib.Core.Path.{refl, ap, sym, ◌∙◌}
use borrow.Author.Tests.{not-true, not-false}
use Rattle.refusals.proofs.Handed.{number-some}
use Rattle.layout.proofs.Answers.{length-refused, length-good, refuses, run-refused, counts-refused, all_told, accepts}
use native.Mathlib.Omega.{arith}
use Rattle.walks.proofs.Loops.{clock-between}
use mathlib.Core.Bool.{not}
use Rattle.layout.proofs.lay_out.Goals as goal

pub returns-in-Err : goal.returns-in-Err
returns-in-Err c =
    (c.refused.ensures ∙ length-refused _ _ c.in-Err.ensures (number-some _), λ q. absurd (number-some _ (sym c.refused.ensures ∙ q)))

pub returns-then-run-second : goal.returns-then-run-second
returns-then-run-second c =
    let good = length-good c.args.s.now _ c.in_default.ensures refl in
    let p = c.sections-layout.ensures in
    refuses _ _ p good (run-refused _ _ p good _ c.run_end-run.ensures.0 c.if-run-second.true) _ _
    c.refused-then-run-second.ensures c.slow_refusal.ensures

pub returns-then-entries-waits : goal.returns-then-entries-waits
returns-then-entries-waits c =
    let good = length-good c.args.s.now _ c.in_default.ensures refl in
    let p = c.sections-layout.ensures in
    refuses _ _ p good
    (counts-refused _ _ p good _ c.run_end-run.ensures.0 _ _ _
    (c.clock_of-clock.ensures ∙ clock-between _ 0 _ (omega arith) (omega arith))
    c.if-run-second.false c.count_entries-entries.ensures
    c.count_waiting-waits.ensures c.if-entries-waits.true)
    _ _ c.refused-then-entries-waits.ensures c.slow_refusal-then-entries-waits.ensures

pub returns-then-not-keys_good : goal.returns-then-not-keys_good
returns-then-not-keys_good c =
    let good = length-good c.args.s.now _ c.in_default.ensures refl in
    let p = c.sections-layout.ensures in
    refuses _ _ p good
    (all_told _ _ p good _ c.run_end-run.ensures.0 _ _ _
    (c.clock_of-clock.ensures ∙ clock-between _ 0 _ (omega arith) (omega arith))
    c.if-run-second.false
    c.count_entries-entries.ensures
    c.count_waiting-waits.ensures c.if-entries-waits.false _
    c.keys_good.ensures ∙ not-true _ (ap not c.if-not-keys_good.true))
    _ _ c.refused-then-not-keys_good.ensures c.slow_refusal-then-not-keys_good.ensures

pub returns : goal.returns
returns c =
    let good = length-good c.args.s.now _ c.in_default.ensures refl in
    let p = c.sections-layout.ensures in
    let a = accepts _ _ p good _ c.run_end-run.ensures.0 _ _ _
    (c.clock_of-clock.ensures ∙ clock-between _ 0 _ (omega arith) (omega arith))
    c.if-run-second.false c.count_entries-entries.ensures
    c.count_waiting-waits.ensures c.if-entries-waits.false _ c.keys_good.ensures
    (not-false _ (ap not c.if-not-keys_good.false)) in
    (a.0, λ z. a.1)
