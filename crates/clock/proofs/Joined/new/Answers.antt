-- `Joined::new` meets its contract.
use Rattle.clock.proofs.Packs.{fits}
use mathlib.Core.List.{[]}
use native.Mathlib.Omega.{arith}
use Rattle.clock.proofs.Joined.new.Goals as goal

pub returns : goal.returns
returns c = rw (c.new-none.ensures, fits [] (omega arith))
