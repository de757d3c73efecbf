-- When removals are valid: clocks are clocks, keys ascend, zeros stand behind what is in use; those that wait ascend, no clock empty.
use Rattle.std.specs.Prelude.{◌≡◌, false, List}
use Rattle.listlaws.specs.Order.{◌∈◌, Ascending, by}
use Rattle.clock.specs.Dots.{is_empty}
use Rattle.clock.specs.Lawful.{Lawful}
use Rattle.removals.specs.declared.Removal.{Removal}
use Rattle.removals.specs.Model.{under_of, listed_in, removal_as}
use Rattle.removals.specs.Waits.{removal_before}

-- a clock, which may be empty, and a set of keys
pub record ValidRemoval (r : Removal) : Type 0 where
  pub laid : r ≡ removal_as (under_of r) (listed_in r)
  pub clock : Lawful (under_of r)
  pub keys : Ascending (by (λ k. k)) (listed_in r)

-- waiting removals, each under a clock that is not empty
pub record ValidWaiting (l : List Removal) : Type 0 where
  pub rising : Ascending removal_before l
  pub each : (r : Removal) → r ∈ l → ValidRemoval r
  pub some : (r : Removal) → r ∈ l → is_empty (under_of r) ≡ false
