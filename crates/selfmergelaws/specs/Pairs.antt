-- Two updates that may come in either order, in the words of change request 13.
use Rattle.std.specs.Prelude.{◌≡◌, [], ◌<◌}
use Rattle.clock.specs.Dots.{counter_in}
use Rattle.entries.specs.declared.Update.{Update}
use Rattle.map.specs.declared.Map.{Map}
use Rattle.map.specs.Judging.{Judged}
use Rattle.map.specs.Model.{seen_by, waiting_in}
use Rattle.map.specs.Updating.{update}
use Rattle.map.specs.Judging.{judged}

-- an "unseen" update
abbrev pub Unseen : Map → Update → Type 0
Unseen m u = counter_in (seen_by m) u.dot.actor < u.dot.counter

-- "two unseen updates by different actors on different keys [...] when nothing is waiting"
pub record Independent (m : Map) (u v : Update) : Type 0 where
  pub first : Unseen m u
  pub second : Unseen m v
  pub actors : u.dot.actor ≡ v.dot.actor → ⊥
  pub keys : u.key ≡ v.key → ⊥
  pub nothing : waiting_in m ≡ []

-- the answer to an update, and to a second one of the map that the first left
abbrev pub answer : Map → Update → Judged
answer m u = judged (update m u)

abbrev pub answers : Map → Update → Update → Judged
answers m u v = answer (answer m u).map v

-- an order that does not refuse
pub record Unrefused (m : Map) (u v : Update) : Type 0 where
  pub first : (answer m u).number ≡ 0
  pub second : (answers m u v).number ≡ 0

-- both orders "end in the same map"
pub record OneEnd (m : Map) (u v : Update) : Type 0 where
  pub end : Map
  pub first : answers m u v ≡ record { number = 0; map = end }
  pub second : answers m v u ≡ record { number = 0; map = end }
