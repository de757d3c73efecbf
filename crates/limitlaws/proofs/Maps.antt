-- The image of a map reads as the map under all limits that hold it.
use mathlib.Core.Path.{◌≡◌, ap, ◌∙◌}
use native.Mathlib.Omega.{arith}
use Rattle.map.specs.declared.Map.{Map}
use Rattle.records.specs.Records.{records_of}
use Rattle.records.proofs.RoundTrips.{length-bytes}
use Rattle.scan.specs.Limits.{Limits}
use Rattle.scan.proofs.Builds.{formed-of, within_by_lem}
use Rattle.mapimage.specs.MapImage.{map_records, map_image}
use Rattle.maprecords.specs.Reading.{map_in}
use Rattle.oneimagelaws.proofs.Sizes.{image-under}
use Rattle.oneimagelaws.proofs.Rising.{records-ascend}
use Rattle.oneimagelaws.proofs.Written.{records-ok, records-again}
use Rattle.oneimagelaws.proofs.Reread.{map-again}
use Rattle.oneimagelaws.proofs.Scans.{records-among}
use Rattle.oneimagelaws.proofs.Relates.{records-related}
use Rattle.limitlaws.specs.Readers.{read_under}
use Rattle.limitlaws.specs.Widening.{UnderLimits}
use Rattle.limitlaws.proofs.Accepting.{Read, accepted-holds}

module _ {t : Limits} {m : Map} (p : UnderLimits t m) where
  same-records : records_of (map_image m) ≡ map_records m
  same-records = records-again p.good.within p.good.narrow

  pub image-read : Read t (map_image m)
  image-read =
      let h = p.good.within in
      record {
        short = image-under h t p.entries p.waiting;
        whole = omega (arith, length-bytes (map_records m));
        formed = rw same-records (formed-of 1 6 (map_records m) (records-ascend h) (records-ok h));
        few = rw same-records (within_by_lem t (map_records m) (records-among h t p.entries p.waiting));
        fit = rw same-records (records-related h);
      }

  pub image-map : map_in (records_of (map_image m)) ≡ m
  image-map = ap map_in same-records ∙ map-again p.good.within

  pub image-reads : read_under t (map_image m) ≡ record { number = 0; map = m }
  image-reads = accepted-holds image-read ∙ ap (λ x. record { number = 0; map = x }) image-map
