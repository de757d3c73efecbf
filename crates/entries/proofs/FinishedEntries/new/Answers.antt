-- `FinishedEntries::new` meets its contract.
use mathlib.Core.Path.{refl}
use Rattle.listlaws.specs.First.{first_in}
use Rattle.listlaws.specs.Pad.{pad}
use Rattle.entries.proofs.FinishedEntries.new.Goals as goal

pub returns : goal.returns
unfolding pad first_in
returns c = (refl, record { count = refl; wide = refl; items = λ few thin. rw c.new-none.ensures })
