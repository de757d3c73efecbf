-- `Register::push` meets its contract: a store behind the last value.
use mathlib.Core.Path.{ap}
use Rattle.register.proofs.Packs.{pushed}
use native.Mathlib.Omega.{arith}
use Rattle.register.proofs.Register.push.Goals as goal

pub returns : goal.returns
returns c = λ l e. pushed l _ e (omega (arith, ap (λ k. k.len) e))
