-- 01 "Map": an update.
use Rattle.rules.specs.WholeMap.{update_by}
use Rattle.entries.specs.declared.Update.{Update}
use Rattle.entries.specs.Entries.{put_entries}
use Rattle.map.specs.declared.Map.{Map}
use Rattle.map.specs.Model.{packed_map}
use Rattle.map.specs.Removing.{afresh}

unfoldable pub update : Map → Update → Map
update m u = update_by packed_map afresh (put_entries u) m u.dot
