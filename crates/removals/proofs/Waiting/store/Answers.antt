-- `Waiting::store` meets its contract: the removal is stored behind the last.
use mathlib.Core.Path.{refl, ap}
use Rattle.removals.proofs.Packs.{removal-pushed}
use native.Mathlib.Omega.{arith}
use Rattle.removals.proofs.Waiting.store.Goals as goal

pub returns : goal.returns
returns c = (refl, λ l e. removal-pushed l c.args.r e (omega (arith, c.requires, ap (λ k. k.len) e)))
