-- The number of records one by one is at most 2.
use mathlib.Core.Path.{◌≡◌}
use mathlib.Core.List.{List}
use Prim.Native.Nat.{ℕ, ◌≤◌}
use native.Mathlib.Omega.{arith}
use Rattle.std.specs.Prelude.{min}
use Rattle.records.specs.declared.Record.{Record}
use Rattle.scan.specs.Formed.{well_formed}
use Rattle.scan.specs.Limits.{within}
use Rattle.scan.specs.Numbers.{scan_number}
use Rattle.scan.proofs.Eachs.{decide}

pub scan-most : (low high : ℕ) (l : List Record) → scan_number low high l ≤ 2
unfolding scan_number
scan-most low high l =
    decide (well_formed low high l) (λ t. rw t (decide (within l) (λ u. rw u (omega arith)) (λ u. rw u (omega arith)))) (λ f. rw f (omega arith))

pub scan-min : (low high : ℕ) (l : List Record) → min (scan_number low high l) 2 ≡ scan_number low high l
scan-min low high l = let h = scan-most low high l in omega arith

-- no number is 0
pub passed : (n : ℕ) → 0 ≡ min n 2 → n ≡ 0
passed n e = omega arith
