-- 01 "Map": merging two maps.
use Rattle.rules.specs.WholeMap.{merge_by}
use Rattle.entries.specs.Entries.{merge_entries}
use Rattle.map.specs.declared.Map.{Map}
use Rattle.map.specs.Model.{packed_map}
use Rattle.map.specs.Removing.{remove, afresh}

unfoldable pub merge : Map → Map → Map
merge m n = merge_by packed_map remove afresh merge_entries m n
