-- What a writer leaves: bytes in place, and the place behind them.
use Rattle.std.specs.Prelude.{◌≡◌, ℕ, ◌+◌, List, length}
use Rattle.records.specs.Bytes.{placed}

-- a writer was given `entry`, left `exit`, and answers the place behind the bytes b that it wrote at `at`
pub record Wrote (at : ℕ) (b entry exit : List ℕ) (next : ℕ) : Type 0 where
  pub left : exit ≡ placed at b entry
  pub ends : next ≡ at + length b
