-- `Entries::push` meets its contract: a store behind the last entry.
use mathlib.Core.Path.{refl, ap}
use Rattle.entries.proofs.Packs.{entry-pushed}
use native.Mathlib.Omega.{arith}
use Rattle.entries.proofs.Entries.push.Goals as goal

pub returns : goal.returns
returns c = (refl, λ l e. entry-pushed l _ e (omega (arith, ap (λ k. k.len) e)))
