-- `rm` meets its contract.
use mathlib.Core.Path.{ap}
use mathlib.Core.List.{[]}
use native.Mathlib.Omega.{arith}
use Rattle.asking.proofs.rm.Goals as goal

pub push-keys-requires : goal.push-keys-requires
push-keys-requires c = omega (arith, ap (λ k. k.len) c.new.ensures)

pub returns : goal.returns
returns c =
    let n = c.before in
    let p = n.before in
    rw (p.push-keys.ensures [] p.new.ensures, n.no_op-none.ensures)
