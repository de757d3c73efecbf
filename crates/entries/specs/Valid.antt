-- When entries are valid: they ascend by key, clocks are clocks and not empty, and zeros stand behind what is in use.
use Rattle.std.specs.Prelude.{◌≡◌, true, false, List}
use Rattle.listlaws.specs.Order.{◌∈◌, Ascending, by}
use Rattle.clock.specs.declared.Dot.{Dot}
use Rattle.clock.specs.Dots.{dots_of, clock_of, is_empty, covers}
use Rattle.clock.specs.Lawful.{Lawful}
use Rattle.register.specs.declared.Value.{Value}
use Rattle.entries.specs.declared.Entry.{Entry}
use Rattle.entries.specs.Model.{dots_in, values_in, LaidDown}

-- a value under a clock that is not empty
pub record ValidValue (v : Value) : Type 0 where
  pub laid : v ≡ record { clock = clock_of (dots_of v.clock); value = v.value }
  pub clock : Lawful (dots_of v.clock)
  pub some : is_empty (dots_of v.clock) ≡ false

-- "Every entry clock is non-empty and covered by the map clock."
pub record ValidEntry (seen : List Dot) (e : Entry) : Type 0 where
  pub laid : LaidDown e
  pub clock : Lawful (dots_in e)
  pub some : is_empty (dots_in e) ≡ false
  pub covered : covers seen (dots_in e) ≡ true
  pub values : (v : Value) → v ∈ values_in e → ValidValue v

-- entries "by key"
pub record ValidEntries (seen : List Dot) (l : List Entry) : Type 0 where
  pub rising : Ascending (by (λ e. e.key)) l
  pub each : (e : Entry) → e ∈ l → ValidEntry seen e
