-- Values by their dots and their number, set by nobody in particular, for worked examples.
use mathlib.Core.List.{List}
use Prim.Native.Nat.{ℕ}
use Rattle.clock.specs.declared.Dot.{Dot}
use Rattle.clock.specs.Dots.{clock_of}
use Rattle.register.specs.declared.Value.{Value}

abbrev pub value : List Dot → ℕ → Value
value c n = record { clock = clock_of c; value = record { number = n; origin = 0 } }
