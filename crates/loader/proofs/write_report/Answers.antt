-- `write_report` meets its contract.
use mathlib.Core.Path.{refl}
use native.Mathlib.Omega.{arith}
use Rattle.records.proofs.Placing.{placed_on}
use Rattle.loader.proofs.write_report.Goals as goal

pub returns : goal.returns
returns c =
    let at-put64 = c.before.before in
    let at-third = at-put64.before.before.before.before in
    let at_second = at-third.before.before.before.before.before in
    let at_first = at_second.before.before.before.before.before in
    let two = placed_on _ _ _ _ _ at_first.put8.ensures at_second.put8-2.ensures refl (omega arith) in
    let three = placed_on _ _ _ _ _ two at-third.put8-3.ensures refl (omega arith) in
    rw (← at_second.flag.ensures, ← at-third.flag-2.ensures)
    (record { left = placed_on _ _ _ _ _ three at-put64.put64.ensures refl (omega arith); ends = refl })
