-- 01 "Map": the removal of keys under a clock, and applying every waiting removal afresh.
use Rattle.removals.specs.declared.Removal.{Removal}
use Rattle.rules.specs.WholeMap.{remove_by, afresh_by}
use Rattle.entries.specs.Entries.{remove_entries}
use Rattle.map.specs.declared.Map.{Map}
use Rattle.map.specs.Model.{packed_map}

unfoldable pub remove : Map → Removal → Map
remove m r = remove_by packed_map remove_entries m r

unfoldable pub afresh : Map → Map
afresh m = afresh_by packed_map remove m
