-- `Wide::push` meets its contract: a store behind the last value.
use mathlib.Core.Path.{refl, ap}
use Rattle.register.proofs.Packs.{wide-pushed}
use native.Mathlib.Omega.{arith}
use Rattle.register.proofs.Wide.push.Goals as goal

pub returns : goal.returns
returns c = (refl, λ l e. wide-pushed l _ e (omega (arith, ap (λ k. k.len) e)))
