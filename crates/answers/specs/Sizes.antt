-- How many records the image of a map has.
use Rattle.std.specs.Prelude.{◌*◌, ℕ, ◌+◌, length}
use Rattle.limits.specs.Limits.{dot_limit, value_limit, entry_limit, waiting_limit, key_limit}
use Rattle.clock.specs.Dots.{dots_of}
use Rattle.register.specs.declared.Value.{Value}
use Rattle.entries.specs.declared.Entry.{Entry}
use Rattle.removals.specs.declared.Removal.{Removal}
use Rattle.entries.specs.Model.{dots_in, values_in}
use Rattle.removals.specs.Model.{under_of, listed_in}
use Rattle.map.specs.declared.Map.{Map}
use Rattle.map.specs.Model.{seen_by, entries_in, waiting_in}
use Rattle.listlaws.specs.Fold.{total_of}

-- a value and its dots; an entry's dots and values; a removal's dots and keys
abbrev pub value_size : Value → ℕ
value_size v = 1 + length (dots_of v.clock)

abbrev pub entry_size : Entry → ℕ
entry_size e = length (dots_in e) + total_of value_size (values_in e)

abbrev pub removal_size : Removal → ℕ
removal_size r = length (under_of r) + length (listed_in r)

-- the most records of each within the limits: of a value, a register, an entry, all entries, a removal, all that wait
abbrev pub value_most : ℕ
value_most = 1 + dot_limit

abbrev pub register_most : ℕ
register_most = value_limit * value_most

abbrev pub entry_most : ℕ
entry_most = dot_limit + register_most

abbrev pub entries_most : ℕ
entries_most = entry_limit * entry_most

abbrev pub removal_most : ℕ
removal_most = dot_limit + key_limit

abbrev pub waiting_most : ℕ
waiting_most = waiting_limit * removal_most

unfoldable pub map_size : Map → ℕ
map_size m = length (seen_by m) + (total_of entry_size (entries_in m) + total_of removal_size (waiting_in m))
