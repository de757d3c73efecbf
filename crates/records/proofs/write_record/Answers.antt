-- `write_record` meets its contract.
use mathlib.Core.Path.{refl}
use native.Mathlib.Omega.{arith}
use Rattle.records.proofs.Placing.{placed_on}
use Rattle.records.proofs.write_record.Goals as goal

pub returns : goal.returns
returns c =
    let at-put64 = c.before.before in
    let at-put32 = at-put64.before.before.before.before in
    let at-put16 = at-put32.before.before.before.before in
    let at_second = at-put16.before.before.before.before in
    let at_first = at_second.before.before.before.before in
    let two = placed_on _ _ _ _ _ at_first.put8.ensures at_second.put8-2.ensures refl (omega arith) in
    let three = placed_on _ _ _ _ _ two at-put16.put16.ensures refl (omega arith) in
    let four = placed_on _ _ _ _ _ three at-put32.put32.ensures refl (omega arith) in
    record { left = placed_on _ _ _ _ _ four at-put64.put64.ensures refl (omega arith); ends = refl }
