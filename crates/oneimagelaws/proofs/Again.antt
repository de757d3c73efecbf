-- The image of a map within the limits reads as the map.
use mathlib.Core.Path.{◌≡◌}
use Rattle.map.specs.declared.Map.{Map}
use Rattle.map.specs.Valid.{Within}
use Rattle.mapimage.specs.MapImage.{map_image}
use Rattle.maprecords.specs.Related.{read_map}
use Rattle.oneimagelaws.specs.Narrow.{Narrow}
use Rattle.oneimagelaws.proofs.Written.{reads-again}
use Rattle.oneimagelaws.proofs.Reread.{map-again}
use Rattle.oneimagelaws.proofs.Scans.{records-scan}
use Rattle.oneimagelaws.proofs.Relates.{records-related}

pub reads-written : {m : Map} → Within m → Narrow m → read_map (map_image m) ≡ record { number = 0; map = m }
reads-written h n = reads-again h n (records-scan h) (records-related h) (map-again h)
