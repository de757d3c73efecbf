-- A map as lists: its clock's dots, its entries by key, its waiting removals by clock.
use Rattle.std.specs.Prelude.{false, List, []}
use Rattle.clock.specs.declared.Dot.{Dot}
use Rattle.clock.specs.declared.Clock.{Clock}
use Rattle.clock.specs.Dots.{dots_of, clock_of}
use Rattle.removals.specs.declared.Removal.{Removal}
use Rattle.removals.specs.declared.Waiting.{Waiting}
use Rattle.rules.specs.WholeMap.{StoredMap}
use Rattle.entries.specs.declared.Entry.{Entry}
use Rattle.entries.specs.declared.Entries.{Entries}
use Rattle.entries.specs.Model.{entries_of, entries_as, no_update}
use Rattle.removals.specs.Model.{waiting_of, waiting_as, no_removal}
use Rattle.map.specs.declared.Map.{Map}
use Rattle.map.specs.declared.Op.{Op}

-- a map's three parts
abbrev pub seen_by : Map → List Dot
seen_by m = dots_of m.clock

abbrev pub entries_in : Map → List Entry
entries_in m = entries_of m.entries

abbrev pub waiting_in : Map → List Removal
waiting_in m = waiting_of m.waiting

abbrev pub map_as : List Dot → List Entry → List Removal → Map
map_as c e w = record { clock = clock_of c; entries = entries_as e; waiting = waiting_as w }

abbrev pub no_map : Map
no_map = map_as [] [] []

-- an operation that says nothing
abbrev pub no_op : Op
no_op = record { up = false; removal = no_removal; update = no_update }

-- a map's three parts laid into arrays
abbrev pub packed_map : StoredMap Entry Clock Entries Waiting Map
packed_map = record {
  clock = λ m. m.clock;
  entries = λ m. m.entries;
  waiting = λ m. m.waiting;
  whole = λ c l w. record { clock = c; entries = l; waiting = w };
  dots_out = dots_of;
  dots_in = clock_of;
  entries_out = entries_of;
  entries_in = entries_as;
  waiting_out = waiting_of;
  waiting_in = waiting_as;
}
