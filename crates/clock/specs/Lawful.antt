-- When a list of dots is a clock: actors strictly ascending, counters from 1.
use Rattle.std.specs.Prelude.{List, ◌<◌}
use Rattle.listlaws.specs.Order.{◌∈◌, Ascending, by}
use Rattle.clock.specs.declared.Dot.{Dot}

pub record Lawful (l : List Dot) : Type 0 where
  pub rising : Ascending (by (λ d. d.actor)) l
  pub positive : (d : Dot) → d ∈ l → 0 < d.counter
