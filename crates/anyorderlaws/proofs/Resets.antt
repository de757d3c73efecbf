-- The tie-break over castribba_reset_remove: of the map that it is given and the one that it leaves.
use mathlib.Core.Path.{◌≡◌, ap, sym, ◌∙◌}
use mathlib.Core.List.{List}
use Prim.Native.Nat.{ℕ, ◌^◌, ◌<◌}
use lib.ListN.{take}
use Rattle.clock.specs.declared.Dot.{Dot}
use Rattle.clock.specs.Dots.{dots_of}
use Rattle.map.specs.declared.Map.{Map}
use Rattle.map.specs.Model.{waiting_in}
use Rattle.map.specs.Resetting.{reset}
use Rattle.map.specs.Judging.{over_number}
use Rattle.map.proofs.Verdicts.{judged-number, judged-map}
use Rattle.clockimage.specs.ClockImage.{read_clock}
use Rattle.mapimage.specs.MapImage.{map_image}
use Rattle.maprecords.specs.Related.{read_map}
use Rattle.promises.specs.Calls.{reset_answer}
use Rattle.promises.specs.Promises.{ResetRemovePromise}
use Rattle.maplaws.specs.Ties.{TieBreak}
use Rattle.maplaws.proofs.ResetTies.{reset-breaks-ties}
use Rattle.anyorderlaws.specs.Calls.{MapImage}
use Rattle.readbacklaws.proofs.Goods.{good-reset}
use Rattle.readbacklaws.proofs.Back.{zeros}
use Rattle.anyorderlaws.proofs.Images.{ImageOf, reads, start, image-accepted}
use Rattle.anyorderlaws.proofs.Leaves.{answers-zero, first-bytes}

module _ (s c : List ℕ) {entry exit : List ℕ} {word : ℕ} (h : MapImage s) (r : ResetRemovePromise s c entry exit word) (w : word < 2 ^ 32) where
  abbrev by : List Dot
  by = dots_of (read_clock c).clock

  abbrev left : Map
  left = reset (read_map s).map by

  -- within the limits, since the call was accepted
  within : over_number left ≡ 0
  within = sym (judged-number left) ∙ (zeros (reset_answer s c) entry (answers-zero r w)).own

  -- what it leaves is the image of the map after the reset
  image-left : ImageOf (take word exit) left
  image-left = record {
    image = first-bytes r w ∙ ap map_image (judged-map left (judged-number left ∙ within));
    good = good-reset
        (start h).good by within;
  }

  -- end theorems, this one and the next: a run may go on from what the call left, and ties are broken as 01 says
  pub reset-call-image : MapImage (take word exit)
  reset-call-image = image-accepted image-left

  pub reset-call-breaks-ties : TieBreak (dots_of (read_clock c).clock) (waiting_in (read_map s).map) (waiting_in (read_map (take word exit)).map)
  reset-call-breaks-ties = rw (reads image-left) (reset-breaks-ties (start h).good.within.valid by)
