-- What holds between an old reader and a new one whose limits are not smaller: the sentences of change request 6, over the limits.
use Rattle.std.specs.Prelude.{◌≡◌, ◌⊎◌, List, ℕ, ◌≤◌, ◌<◌, length}
use Rattle.map.specs.declared.Map.{Map}
use Rattle.map.specs.Model.{entries_in, waiting_in}
use Rattle.scan.specs.Limits.{Limits}
use Rattle.mapimage.specs.MapImage.{map_image}
use Rattle.maprecords.specs.Related.{refused_map}
use Rattle.oneimagelaws.specs.One.{GoodMap}
use Rattle.limitlaws.specs.Readers.{read_under, number_under}

-- limits, each at most the other's
pub record Below (t u : Limits) : Type 0 where
  pub entries : t.entries ≤ u.entries
  pub waiting : t.waiting ≤ u.waiting

-- a good map with no more entries and waiting removals than the limits say
pub record UnderLimits (t : Limits) (m : Map) : Type 0 where
  pub good : GoodMap m
  pub entries : length (entries_in m) ≤ t.entries
  pub waiting : length (waiting_in m) ≤ t.waiting

-- a map with more of one of them
abbrev pub Over : Limits → Map → Type 0
Over t m = (t.entries < length (entries_in m)) ⊎ (t.waiting < length (waiting_in m))

pub record Widening (old new : Limits) : Type 0 where
  -- "Every image written before is still accepted and means the same map"
  pub still-accepted : (s : List ℕ) → number_under old s ≡ 0 → read_under new s ≡ read_under old s
  -- "a map within the old limits has the same image as before": its one image reads as the map in both
  pub same-image : (m : Map) → UnderLimits old m
      → (read_under old (map_image m) ≡ record { number = 0; map = m }) × (read_under new (map_image m) ≡ record { number = 0; map = m })
  -- "An old controller given a larger image answers 2 and never a shortened map": of every image that the new one accepts, and of every map
  pub larger-refused : (s : List ℕ) → number_under new s ≡ 0 → Over old (read_under new s).map → read_under old s ≡ refused_map 2
  pub answers-two : (m : Map) → UnderLimits new m → Over old m → read_under old (map_image m) ≡ refused_map 2
