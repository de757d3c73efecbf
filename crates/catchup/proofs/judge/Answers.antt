-- `judge` meets its contract: each way out is a law of `Judged`.
use mathlib.Core.Path.{sym, ◌∙◌}
use native.Mathlib.Omega.{arith}
use Rattle.drafting.proofs.Results.{map-short}
use Rattle.catchup.proofs.Judged.{first-refused, second-refused, many-refused, were-run}
use Rattle.catchup.proofs.judge.Goals as goal

pub returns-then-a-ne0 : goal.returns-then-a-ne0
returns-then-a-ne0 c = first-refused _ _ _ _ _ c.refused.ensures.0 c.refused.ensures.1 c.lay_out-a.ensures.0
    c.if-a-ne0.true

pub returns-then-b-ne0 : goal.returns-then-b-ne0
returns-then-b-ne0 c =
    let y = c.before.before.before.before in
    second-refused _ _ _ _ _ c.refused-then-b-ne0.ensures.0 c.refused-then-b-ne0.ensures.1 (sym y.lay_out-a.ensures.0 ∙ y.if-a-ne0.false)
    c.lay_out-b.ensures.0 c.if-b-ne0.true

pub returns-then-count_operations-gt-OPERATIONS : goal.returns-then-count_operations-gt-OPERATIONS
returns-then-count_operations-gt-OPERATIONS c =
    let x = c.before.before.before in
    let y = x.before.before.before in
    many-refused _ _ _ _ _ c.refused-then-count_operations-gt-OPERATIONS.ensures.0 c.refused-then-count_operations-gt-OPERATIONS.ensures.1
    (sym y.lay_out-a.ensures.0 ∙ y.if-a-ne0.false)
    (sym x.lay_out-b.ensures.0 ∙ x.if-b-ne0.false) c.number.ensures
    (omega (arith, c.count_operations.ensures, c.if-count_operations-gt-OPERATIONS.true))

pub arrive-requires : goal.arrive-requires
arrive-requires c = let y = c.before.before.before.before.before in map-short _ (sym y.lay_out-a.ensures.0 ∙ y.if-a-ne0.false)

pub returns : goal.returns
returns c =
    let x = c.before.before.before in
    let y = x.before.before.before in
    were-run _ _ _ (sym y.lay_out-a.ensures.0 ∙ y.if-a-ne0.false) (sym x.lay_out-b.ensures.0 ∙ x.if-b-ne0.false)
    (omega (arith, c.count_operations.ensures, c.if-count_operations-gt-OPERATIONS.false)) c.arrive.ensures
