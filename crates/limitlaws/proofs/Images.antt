-- Under limits that this sled has room for, every map that they hold has one image, and it is the same under each such limits.
use mathlib.Core.Path.{◌≡◌, ap, sym, ◌∙◌}
use mathlib.Core.List.{List}
use mathlib.Core.Logic.{◌⊎◌, inl, inr}
use Prim.Native.Nat.{ℕ}
use lib.Dec.{leb}
use lib.ListN.{length}
use borrow.Author.Tests.{leb-true, leb-false}
use Rattle.map.specs.declared.Map.{Map}
use Rattle.map.specs.Model.{entries_in, waiting_in}
use Rattle.records.specs.Bytes.{Bytes}
use Rattle.records.specs.Records.{records_of}
use Rattle.scan.specs.Limits.{Limits, today}
use Rattle.scan.proofs.Eachs.{decide}
use Rattle.mapimage.specs.MapImage.{map_image}
use Rattle.maprecords.specs.Related.{refused_map, read_map}
use Rattle.oneimagelaws.specs.One.{OneImage}
use Rattle.oneimagelaws.proofs.Maps.{one-map-image}
use Rattle.limitlaws.specs.Readers.{read_under, number_under}
use Rattle.limitlaws.specs.Widening.{Below, UnderLimits, Over}
use Rattle.limitlaws.proofs.Accepting.{reads-today, accepted-means, accepted-holds, still_read, few-entries, few-waiting, larger-refused}
use Rattle.limitlaws.proofs.Maps.{image-reads}

-- what limits accept, this sled reads as the same map
as-today : (t : Limits) → Below t today → (s : List ℕ) → number_under t s ≡ 0 → read_map s ≡ read_under t s
as-today t b s z = let r = accepted-means t s z in sym (reads-today s) ∙ accepted-holds (still_read b r) ∙ sym (accepted-holds r)

pub one-image-under : (t : Limits) → Below t today → OneImage (UnderLimits t) map_image (number_under t) (λ s. (read_under t s).map)
one-image-under t b = record {
  back = λ m p. let e = image-reads p in (ap (λ r. r.number) e, ap (λ r. r.map) e);
  again = λ s bytes z. let r = accepted-means t s z in
      let l = records_of s in
      let same = as-today t b s z in
      let one = one-map-image.again s bytes (ap (λ q. q.number) same ∙ z) in (
        record {
          good = rw (← same) one.0;
          entries = rw (accepted-holds r) (few-entries t l r.few);
          waiting = rw (accepted-holds r) (few-waiting t l r.formed r.fit r.few);
        },
        ap (λ q. map_image q.map) (sym same) ∙ one.1,
      );
}

-- what an old reader makes of an image that a new one accepts: the same map where the map is within its limits, else 2
module _ (old new : Limits) (h : Below new today) (s : List ℕ) (bytes : Bytes s) (z : number_under new s ≡ 0) where
  abbrev its : Map
  its = (read_under new s).map

  good : UnderLimits new its × (map_image its ≡ s)
  good = (one-image-under new h).again s bytes z

  same-there : UnderLimits old its → read_under old s ≡ read_under new s
  same-there p = ap (read_under old) (sym good.1) ∙ image-reads p ∙ (λ i. record { number = sym z i; map = its })

  -- an end theorem: of what is accepted under the new limits the old reader says the same, or 2
  pub old-answer : (UnderLimits old its × (read_under old s ≡ read_under new s)) ⊎ (Over old its × (read_under old s ≡ refused_map 2))
  old-answer =
      decide (leb (length (entries_in its)) old.entries)
      (λ e. decide (leb (length (waiting_in its)) old.waiting)
      (λ w. let p : UnderLimits old its = record { good = good.0.good; entries = leb-true _ _ e; waiting = leb-true _ _ w } in
      inl (p, same-there p))
      (λ w. let o : Over old its = inr (leb-false _ _ w) in inr (o, larger-refused old new s z o)))
      (λ e. let o : Over old its = inl (leb-false _ _ e) in inr (o, larger-refused old new s z o))
