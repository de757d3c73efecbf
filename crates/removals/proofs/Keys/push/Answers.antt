-- `Keys::push` meets its contract: a store behind the last key.
use mathlib.Core.Path.{ap}
use Rattle.removals.proofs.Packs.{key_pushed}
use native.Mathlib.Omega.{arith}
use Rattle.removals.proofs.Keys.push.Goals as goal

pub returns : goal.returns
returns c = λ l e. key_pushed l _ e (omega (arith, ap (λ k. k.len) e))
