-- A loop that writes waiting keys in order: the least that is left, again and again.
use mathlib.Core.Path.{◌≡◌, refl, ap}
use mathlib.Core.Bool.{true}
use mathlib.Core.List.{List, [], ◌∷◌, ◌++◌, map}
use Prim.Native.Nat.{ℕ, ◌+◌, ◌*◌, ◌≤◌, ◌<◌}
use native.Mathlib.Omega.{arith}
use lib.Dec.{leb, ltb}
use lib.ListN.{length}
use Rattle.listlaws.specs.Sift.{those}
use Rattle.records.specs.Records.{record_bytes, bytes_of}
use Rattle.records.specs.Writing.{Wrote}
use Rattle.records.proofs.Writing.{Writing, write-start, write-room, write-on, write-end, wrote_one}
use Rattle.scan.specs.Each.{every}
use Rattle.mapimage.specs.Sorted.{in_order}
use Rattle.mapimage.specs.Least.{least_from}
use Rattle.mapimage.specs.MapImage.{number_record}
use Rattle.mapimage.proofs.Sorts.{next-least, no-least, from_start, least_above}

-- those below `low` are written, and `best` is the least of the others
pub record Selecting (end : ℕ) (l : List ℕ) (at : ℕ) (entry now : List ℕ) (next best : ℕ) : Type 0 where
  pub low : ℕ
  pub least : best ≡ least_from low end l
  pub writing : Writing (map number_record (in_order l)) (map number_record (those (leb low) (in_order l))) at entry now next

module _ (end : ℕ) (l : List ℕ) (at : ℕ) (entry : List ℕ) (below : every (λ x. ltb x end) l ≡ true) where
  pub select-start : {best : ℕ} → best ≡ least_from 0 end l → at + length (map number_record (in_order l)) * 16 ≤ length entry
      → Selecting end l at entry entry at best
  select-start e h = record { low = 0; least = e; writing = rw (from_start (in_order l)) (write-start (map number_record (in_order l)) at entry h) }

  module _ {o : List ℕ} {next best : ℕ} (s : Selecting end l at entry o next best) where
    split : best < end → map number_record (those (leb s.low) (in_order l)) ≡ (number_record best ∷ []) ++ map number_record
        (those (leb (best + 1)) (in_order l))
    split h = rw s.least (ap (map number_record) (next-least end s.low l below (rw s.least at h)))

    pub select-room : best < end → next + 16 ≤ length o
    select-room h = let r = (write-room _ _ _ (number_record best ∷ []) _ s.writing (split h)).0 in omega arith

    pub select-on : best < end → {p : List ℕ} {after : ℕ} (more : ℕ) → Wrote next (record_bytes (number_record best)) o p after
        → more ≡ least_from (best + 1) end l → (Selecting end l at entry p after more) × (best < more)
    select-on h more w e = (
      record {
        low = best + 1;
        least = e;
        writing = write-on _ _ _ (number_record best ∷ []) s.writing (split h)
            (wrote_one (number_record best) _ _ _ _ w);
      },
      let a = least_above (best + 1) end l (omega arith) in omega arith,
    )

    pub select-end : end ≤ best → Wrote at (bytes_of (map number_record (in_order l))) entry o next
    select-end h = write-end _ _ _ s.writing (ap (map number_record) (no-least end s.low l below (rw s.least at h)))

    pub select_kept : length o ≡ length entry
    select_kept = (write-room _ _ _ [] _ s.writing refl).1
