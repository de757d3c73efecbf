-- Maps that differ in origins alone: they are one where every origin is forgotten.
use Rattle.std.specs.Prelude.{◌≡◌, map}
use Rattle.register.specs.declared.Value.{Value}
use Rattle.entries.specs.declared.Entry.{Entry}
use Rattle.entries.specs.Model.{dots_in, values_in, entry_as}
use Rattle.map.specs.declared.Map.{Map}
use Rattle.map.specs.Model.{seen_by, entries_in, waiting_in, map_as}

abbrev pub unnamed_value : Value → Value
unnamed_value v = record { clock = v.clock; value = record { number = v.value.number; origin = 0 } }

abbrev pub unnamed_entry : Entry → Entry
unnamed_entry e = entry_as e.key (dots_in e) (map unnamed_value (values_in e))

abbrev pub unnamed : Map → Map
unnamed m = map_as (seen_by m) (map unnamed_entry (entries_in m)) (waiting_in m)

abbrev pub AlikeButOrigins : Map → Map → Type 0
AlikeButOrigins m n = unnamed m ≡ unnamed n
