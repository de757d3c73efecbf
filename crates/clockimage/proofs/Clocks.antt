-- A clock's image has records of kind 1 alone.
use mathlib.Core.Path.{◌≡◌}
use mathlib.Core.List.{List, [], ◌∷◌, ◌++◌}
use native.Mathlib.Omega.{arith}
use Rattle.records.specs.declared.Record.{Record}
use Rattle.scan.specs.Numbers.{scan_number}
use Rattle.scan.proofs.Scanning.{scan-last}
use Rattle.scan.proofs.Rooms.{kind-range}

pub is-first : (l : List Record) (r : Record) → scan_number 1 1 (l ++ (r ∷ [])) ≡ 0 → r.kind ≡ 1
is-first l r z = let h = kind-range 1 1 r (scan-last 1 1 l r z) in omega arith
