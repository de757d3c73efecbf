-- A map has one image.
use mathlib.Core.Path.{ap}
use Rattle.mapimage.specs.MapImage.{map_image}
use Rattle.maprecords.specs.Related.{read_map}
use Rattle.acceptancelaws.proofs.Maps.{map-within}
use Rattle.oneimagelaws.specs.One.{OneImage, GoodMap}
use Rattle.oneimagelaws.proofs.Fields.{map-narrow}
use Rattle.oneimagelaws.proofs.Again.{reads-written}
use Rattle.oneimagelaws.proofs.Rewritten.{writes-read}

pub one-map-image : OneImage GoodMap map_image (λ s. (read_map s).number) (λ s. (read_map s).map)
one-map-image = record {
  back = λ m g. let e = reads-written g.within g.narrow in (ap (λ r. r.number) e, ap (λ r. r.map) e);
  again = λ s b z. (record { within = map-within s; narrow = map-narrow s b }, writes-read s b z);
}
