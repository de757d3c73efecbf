-- The sentences of change request 6, over any two limits of which one is below the other, and with the numbers of the old sleds and the new ones.
use mathlib.Core.Path.{◌≡◌, refl, sym, ◌∙◌}
use native.Mathlib.Omega.{arith}
use Rattle.map.specs.declared.Map.{Map}
use Rattle.scan.specs.Limits.{Limits, today}
use Rattle.mapimage.specs.MapImage.{longest_by, map_image}
use Rattle.oneimagelaws.specs.One.{OneImage}
use Rattle.limitlaws.specs.Readers.{read_under, number_under}
use Rattle.limitlaws.specs.Sleds.{old_sleds, new_sleds}
use Rattle.limitlaws.specs.Widening.{Below, UnderLimits, Over, Widening}
use Rattle.limitlaws.proofs.Accepting.{accepted-means, accepted-holds, still_read, over-refused, larger-refused}
use Rattle.limitlaws.proofs.Maps.{image-read, image-map, image-reads}
use Rattle.limitlaws.proofs.Images.{one-image-under}

over-again : (t : Limits) {x y : Map} → x ≡ y → Over t y → Over t x
over-again t e o = rw e o

pub widening : (old new : Limits) → Below old new → Widening old new
widening old new b = record {
  still-accepted = λ s z. let r = accepted-means old s z in accepted-holds (still_read b r) ∙ sym (accepted-holds r);
  same-image = λ m p. (image-reads p, image-reads (larger p));
  larger-refused = larger-refused old new;
  answers-two = λ m p o. over-refused old (image-read p) (over-again old (image-map p) o);
}
  where
    larger : {m : Map} → UnderLimits old m → UnderLimits new m
    larger p = record { good = p.good; entries = omega (arith, p.entries, b.entries); waiting = omega (arith, p.waiting, b.waiting) }

-- end theorems from here on: of the old sleds and the new ones, and of this one
pub bigger-sleds : Widening old_sleds new_sleds
bigger-sleds = widening old_sleds new_sleds (record { entries = omega arith; waiting = omega arith })

-- this sled is not smaller than the old ones
room-here : Below old_sleds today
room-here = record { entries = omega arith; waiting = omega arith }

-- this sled is a new one
pub is-new : today ≡ new_sleds
is-new = refl

pub this-sled : Widening old_sleds today
this-sled = widening old_sleds today room-here

-- what the old sleds accept is exactly the images of maps within the old limits, the very images that this sled writes
pub old-images : OneImage (UnderLimits old_sleds) map_image (number_under old_sleds) (λ s. (read_under old_sleds s).map)
old-images = one-image-under old_sleds room-here

-- "The longest map image becomes 28,800 bytes."
pub longest-old : longest_by old_sleds ≡ 14464
longest-old = refl

pub longest-new : longest_by new_sleds ≡ 28800
longest-new = refl
