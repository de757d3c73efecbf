-- What a reader answers of a map's image under limits of its own, in 01's order: longer than its longest image 2, malformed 1, over its
-- limits 2, related records wrong 3.
use Rattle.std.specs.Prelude.{ℕ, cond, List}
use Rattle.records.specs.declared.Record.{Record}
use Rattle.records.specs.Kinds.{clock_dot_kind, waiting_key_kind}
use Rattle.scan.specs.Formed.{well_formed}
use Rattle.scan.specs.Limits.{Limits, within_by}
use Rattle.clockimage.specs.Image.{image_of}
use Rattle.mapimage.specs.MapImage.{longest_by}
use Rattle.maprecords.specs.Related.{ReadMap}
use Rattle.maprecords.specs.Reading.{map_in}
use Rattle.maprecords.specs.Related.{related, refused_map}

abbrev pub judged_under : Limits → List Record → ReadMap
judged_under t l =
    cond (well_formed clock_dot_kind waiting_key_kind l)
    (cond (within_by t l) (cond (related l) (record { number = 0; map = map_in l }) (refused_map 3)) (refused_map 2))
    (refused_map 1)

unfoldable pub read_under : Limits → List ℕ → ReadMap
read_under t s = image_of (longest_by t) refused_map (judged_under t) s

abbrev pub number_under : Limits → List ℕ → ℕ
number_under t s = (read_under t s).number
