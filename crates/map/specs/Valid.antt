-- When a map, and an operation on it, is valid.
use Rattle.std.specs.Prelude.{◌≡◌, true, ◌≤◌, ◌<◌, length}
use Rattle.limits.specs.Limits.{dot_limit, key_limit}
use Rattle.clock.specs.Dots.{dots_of, clock_of}
use Rattle.clock.specs.Lawful.{Lawful}
use Rattle.removals.specs.declared.Removal.{Removal}
use Rattle.entries.specs.declared.Update.{Update}
use Rattle.removals.specs.Model.{under_of, listed_in}
use Rattle.entries.specs.Valid.{ValidEntries}
use Rattle.removals.specs.Valid.{ValidRemoval, ValidWaiting}
use Rattle.map.specs.declared.Map.{Map}
use Rattle.map.specs.declared.Op.{Op}
use Rattle.map.specs.Model.{seen_by, entries_in, waiting_in, map_as}
use Rattle.map.specs.Judging.{over_number}

pub record Valid (m : Map) : Type 0 where
  pub laid : m ≡ map_as (seen_by m) (entries_in m) (waiting_in m)
  pub clock : Lawful (seen_by m)
  pub entries : ValidEntries (seen_by m) (entries_in m)
  pub waiting : ValidWaiting (waiting_in m)

-- a dot with a counter, and a put whose clock may be empty
pub record ValidUpdate (u : Update) : Type 0 where
  pub dot : 0 < u.dot.counter
  pub laid : u.put ≡ record { clock = clock_of (dots_of u.put.clock); value = u.put.value }
  pub clock : Lawful (dots_of u.put.clock)

pub record ValidOp (op : Op) : Type 0 where
  pub removal : ValidRemoval op.removal
  pub update : op.up ≡ true → ValidUpdate op.update

-- a valid map within every limit
pub record Within (m : Map) : Type 0 where
  pub valid : Valid m
  pub limits : over_number m ≡ 0

pub record RemovalWithin (r : Removal) : Type 0 where
  pub valid : ValidRemoval r
  pub dots : length (under_of r) ≤ dot_limit
  pub keys : length (listed_in r) ≤ key_limit

pub record UpdateWithin (u : Update) : Type 0 where
  pub valid : ValidUpdate u
  pub dots : length (dots_of u.put.clock) ≤ dot_limit

pub record OpWithin (op : Op) : Type 0 where
  pub removal : RemovalWithin op.removal
  pub update : op.up ≡ true → UpdateWithin op.update
