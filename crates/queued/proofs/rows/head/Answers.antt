-- `head` meets its contract.
use mathlib.Core.Path.{ap}
use native.Mathlib.Omega.{arith}
use Rattle.records.specs.declared.Record.{Record}
use Rattle.queued.proofs.rows.head.Goals as goal

pub returns-then-at-end : goal.returns-then-at-end
returns-then-at-end c =
    let e = c.read_record-r.ensures in
    let k = ap (λ (x : Record). x.key) e in
    let b = ap (λ (x : Record). x.index) e in
    (λ h. (k, (omega arith, omega arith)), λ h. omega arith)
