-- A map's own image, merged into it, comes back byte for byte.
use mathlib.Core.Path.{◌≡◌, ◌∙◌}
use mathlib.Core.List.{List}
use Prim.Native.Nat.{ℕ}
use Rattle.records.specs.Bytes.{Bytes}
use Rattle.mapimage.specs.MapImage.{map_image}
use Rattle.maprecords.specs.Related.{read_map}
use Rattle.selfmergelaws.specs.Premises.{NoneDominated, Untouched, Uncovered}
use Rattle.selfmergelaws.proofs.Merges.{merge-self-accepted}
use Rattle.oneimagelaws.proofs.Maps.{one-map-image}
use Rattle.promises.specs.Calls.{merge_answer}

-- the end theorem of this file
pub merged-with-itself : (s : List ℕ) → Bytes s → (read_map s).number ≡ 0 → NoneDominated (read_map s).map → Untouched (read_map s).map
    → Uncovered (read_map s).map
    → merge_answer s s ≡ record { first = 0; second = 0; own = 0; bytes = s }
merged-with-itself s b z st un unc =
    let good = one-map-image.again s b z in
    let e = merge-self-accepted good.0.within st un unc in
    (λ i. record { first = z i; second = z i; own = (e i).number; bytes = map_image (e i).map })
    ∙ (λ i. record { first = 0; second = 0; own = 0; bytes = good.1 i })
