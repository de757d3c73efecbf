-- The number of an image's records one by one: 1 or 2.
use Rattle.std.specs.Prelude.{ℕ, cond, List}
use Rattle.records.specs.declared.Record.{Record}
use Rattle.scan.specs.Formed.{well_formed}
use Rattle.scan.specs.Limits.{within}

-- 1 where the records are not well formed, else 2 where they are over a limit
unfoldable pub scan_number : ℕ → ℕ → List Record → ℕ
scan_number low high l = cond (well_formed low high l) (cond (within l) 0 2) 1
