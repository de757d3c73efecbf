-- 01 "Map": `reset_remove`.
use Rattle.std.specs.Prelude.{List}
use Rattle.listlaws.specs.Sift.{sift}
use Rattle.clock.specs.declared.Dot.{Dot}
use Rattle.rules.specs.WholeMap.{reset_by}
use Rattle.entries.specs.Entries.{stays, cut_entry}
use Rattle.map.specs.declared.Map.{Map}
use Rattle.map.specs.Model.{packed_map}

unfoldable pub reset : Map → List Dot → Map
reset m c = reset_by packed_map (λ by l. sift stays (cut_entry by) l) m c
