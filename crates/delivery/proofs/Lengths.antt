-- How long the image of what stands in a reader's memory is.
use mathlib.Core.Path.{◌≡◌, ap, ◌∙◌}
use mathlib.Core.List.{List}
use Prim.Native.Nat.{ℕ, ◌+◌, ◌*◌}
use native.Mathlib.Omega.{arith}
use lib.ListN.{length, length-append, length-map}
use Rattle.limits.specs.Limits.{dot_limit}
use Rattle.removals.specs.Model.{under_of}
use Rattle.records.proofs.RoundTrips.{length-bytes}
use Rattle.clockimage.specs.Image.{dot_record}
use Rattle.mapimage.specs.MapImage.{waiting_dots, waiting_keys, records_in}
use Rattle.listlaws.specs.Fold.{total_of}
use Rattle.answers.specs.Sizes.{entry_size}
use Rattle.answers.proofs.Totals.{length-flat}
use Rattle.answers.proofs.Lengths.{in-entries}
use Rattle.memory.specs.Memory.{clock_place, count_at, dots_at, entries_at, waiting_at}
use Rattle.delivery.specs.Delivery.{image_at}
use Rattle.delivery.proofs.Views.{length-dots}

module _ (w : List ℕ) where
  pub length-records : length (image_at w) ≡ length (records_in (dots_at w clock_place) (entries_at w) (waiting_at w)) * 16
  unfolding image_at
  length-records = length-bytes (records_in (dots_at w clock_place) (entries_at w) (waiting_at w))

  pub length-image : length (image_at w) ≡ (count_at dot_limit clock_place
      w + (total_of entry_size (entries_at w) + (total_of (λ x. length (under_of x)) (waiting_at w) + length (waiting_keys (waiting_at w))))) * 16
  length-image =
      let d = length-flat (λ r. length (under_of r)) waiting_dots (λ i r. length-map (under_of r) _) 0 (waiting_at w) in
      length-records ∙ ap (λ n. n * 16)
      (simp length-append (omega (
        arith,
        length-map (dots_at w clock_place) (dot_record 1 0 0),
        length-dots w clock_place,
        in-entries (entries_at w),
        d,
      )))
