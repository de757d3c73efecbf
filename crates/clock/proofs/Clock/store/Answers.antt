-- `Clock::store` meets its contract: the dot is stored behind the last.
use mathlib.Core.Path.{ap}
use Rattle.clock.proofs.Packs.{pushed}
use native.Mathlib.Omega.{arith}
use Rattle.clock.proofs.Clock.store.Goals as goal

pub returns : goal.returns
returns c = λ l e. pushed l c.args.d e (omega (arith, c.requires, ap (λ k. k.len) e))
