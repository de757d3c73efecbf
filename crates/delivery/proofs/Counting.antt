-- A loop that counts numbers, each once: the least that is left, again and again.
use mathlib.Core.Path.{◌≡◌, ap}
use mathlib.Core.Bool.{true}
use mathlib.Core.List.{List}
use Prim.Native.Nat.{ℕ, ◌+◌, ◌≤◌, ◌<◌}
use native.Mathlib.Omega.{arith}
use lib.Dec.{leb, ltb}
use lib.ListN.{length}
use Rattle.listlaws.specs.Sift.{those}
use Rattle.scan.specs.Each.{every}
use Rattle.mapimage.specs.Sorted.{in_order}
use Rattle.mapimage.specs.Least.{least_from}
use Rattle.mapimage.proofs.Sorts.{next-least, no-least, from_start, least_above, least-most}

-- those below `low` are counted, and `best` is the least of the others
pub record Counting (end : ℕ) (l : List ℕ) (total best : ℕ) : Type 0 where
  pub low : ℕ
  pub least : best ≡ least_from low end l
  pub left : total + length (those (leb low) (in_order l)) ≡ length (in_order l)
  pub most : total ≤ best

module _ (end : ℕ) (l : List ℕ) (below : every (λ x. ltb x end) l ≡ true) where
  pub counting-start : {best : ℕ} → best ≡ least_from 0 end l → Counting end l 0 best
  counting-start e = record { low = 0; least = e; left = let n = ap length (from_start (in_order l)) in omega arith; most = omega arith }

  module _ {total best : ℕ} (s : Counting end l total best) where
    pub counting-on : best < end → (more : ℕ) → more ≡ least_from (best + 1) end l → (Counting end l (total + 1) more) × (best < more)
    counting-on h more e =
        let n = ap length (next-least end s.low l below (rw s.least at h)) in
        let a = least_above (best + 1) end l (omega arith) in
        let m = s.most in
        let p = s.left in
        (record { low = best + 1; least = e; left = rw s.least (omega arith); most = omega arith }, omega arith)

    pub counting-end : end ≤ best → (total ≡ length (in_order l)) × (total ≤ end)
    counting-end h =
        let n = ap length (no-least end s.low l below (rw s.least at h)) in
        let b = least-most s.low end l in
        let e = s.least in
        let p = s.left in
        let m = s.most in
        (omega arith, omega arith)
