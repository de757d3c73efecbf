-- The image of a map within the limits is not longer than the longest.
use mathlib.Core.List.Memᴰ
use mathlib.Core.List.{List, [], ◌∷◌}
use mathlib.Core.Path.{refl}
use Prim.Native.Nat.{ℕ, ◌*◌, ◌≤◌}
use native.Mathlib.Nat.{suc-mul}
use native.Mathlib.Omega.{arith}
use lib.ListN.{length}
use Rattle.listlaws.specs.Order.{◌∈◌}
use Rattle.entries.specs.Model.{values_in}
use Rattle.map.specs.declared.Map.{Map}
use Rattle.map.specs.Model.{entries_in, waiting_in}
use Rattle.map.specs.Valid.{Within}
use Rattle.map.proofs.Accepts.{fits-means}
use Rattle.scan.specs.Limits.{Limits, today}
use Rattle.mapimage.specs.MapImage.{longest_by, map_longest, map_image}
use Rattle.answers.specs.Sizes.{value_most, entry_most, removal_most, value_size, entry_size, removal_size, map_size}
use Rattle.listlaws.specs.Fold.{total_of}
use Rattle.answers.proofs.Lengths.{length-image}

total-most : {A : Type 0} (size : A → ℕ) (b : ℕ) (l : List A) → ((x : A) → x ∈ l → size x ≤ b) → total_of size l ≤ length l * b
unfolding total_of
total-most size b [] f = omega arith
total-most size b (x ∷ l) f = rw suc-mul (omega (arith, f x (Memᴰ.head refl), total-most size b l (λ y i. f y (Memᴰ.tail i))))

-- under each limits
pub image-under : {m : Map} → Within m → (t : Limits) → length (entries_in m) ≤ t.entries → length (waiting_in m) ≤ t.waiting
    → length (map_image m) ≤ longest_by t
unfolding map_size
image-under {m} h t entries waiting =
    let f = fits-means m h.limits in
    omega (
      arith,
      length-image h.valid f.number,
      f.clock,
      entries,
      waiting,
      total-most entry_size entry_most (entries_in m) (λ e i. omega (
        arith,
        (f.entries e i).dots,
        (f.entries e i).count,
        total-most value_size value_most (values_in e) (λ v j. omega (arith, (f.entries e i).each v j)),
      )),
      total-most removal_size removal_most (waiting_in m) (λ r i. omega (arith, (f.waiting r i).dots, (f.waiting r i).keys)),
    )

pub image-most : {m : Map} → Within m → length (map_image m) ≤ map_longest
image-most {m} h = let f = fits-means m h.limits in image-under h today f.count f.number
