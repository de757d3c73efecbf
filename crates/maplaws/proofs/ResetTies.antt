-- After a reset of a map a key is listed under a waiting clock exactly when one of the removals whose cut clock is that one listed it.
use mathlib.Core.List.{List}
use Rattle.clock.specs.declared.Dot.{Dot}
use Rattle.removals.specs.Waits.{reset_waiting}
use Rattle.removals.proofs.Packs.{waiting-of}
use Rattle.map.specs.declared.Map.{Map}
use Rattle.map.specs.Model.{waiting_in}
use Rattle.map.specs.Resetting.{reset}
use Rattle.map.specs.Valid.{Valid}
use Rattle.maplaws.specs.Ties.{TieBreak}
use Rattle.maplaws.proofs.Ties.{breaks-ties}

pub reset-breaks-ties : {m : Map} → Valid m → (c : List Dot) → TieBreak c (waiting_in m) (waiting_in (reset m c))
unfolding reset
reset-breaks-ties {m} v c = rw (waiting-of (reset_waiting c (waiting_in m))) (breaks-ties c v.waiting.each)
