-- The levels: at 0 a register, at one more a map of what stands one level lower.
use Rattle.std.specs.Prelude.{List, ℕ, zero, suc}
use Rattle.register.specs.declared.Value.{Value}
use Rattle.rules.specs.OneEntry.{Holds}
use Rattle.entries.specs.Entries.{registers}
use Rattle.levels.specs.MapOver.{MapOf, OpOf, map_rules}

abbrev pub Val : ℕ → Type 0
Val zero = List Value
Val (suc n) = MapOf (Val n)

-- "An update on a full path ends in a put, on a shorter one in a removal inside the map reached"
abbrev pub Op : ℕ → Type 0
Op zero = Value
Op (suc n) = OpOf (Op n)

unfoldable pub rules_at : (n : ℕ) → Holds (Val n) (Op n)
rules_at zero = registers
rules_at (suc n) = map_rules (rules_at n)
