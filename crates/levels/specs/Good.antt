-- When a value, and an operation on it, is valid: once over the level.
use Rattle.std.specs.Prelude.{◌≡◌, true, false, List, ℕ, zero, suc, ◌<◌}
use Rattle.listlaws.specs.Order.{◌∈◌, Ascending, by}
use Rattle.clock.specs.declared.Dot.{Dot}
use Rattle.clock.specs.Dots.{dots_of, is_empty, covers}
use Rattle.clock.specs.Lawful.{Lawful}
use Rattle.register.specs.declared.Value.{Value}
use Rattle.removals.specs.Valid.{ValidRemoval, ValidWaiting}
use Rattle.entries.specs.Valid.{ValidValue}
use Rattle.levels.specs.MapOver.{EntryOf, MapOf, OpOf, up, rm}
use Rattle.levels.specs.Level.{Val, Op}

-- "Every entry clock is non-empty and covered by the map clock."
pub record GoodEntry {A : Type 0} (Good : A → Type 0) (seen : List Dot) (e : EntryOf A) : Type 0 where
  pub clock : Lawful e.dots
  pub some : is_empty e.dots ≡ false
  pub covered : covers seen e.dots ≡ true
  pub val : Good e.val

pub record GoodOver {A : Type 0} (Good : A → Type 0) (m : MapOf A) : Type 0 where
  pub clock : Lawful m.seen
  pub rising : Ascending (by (λ (e : EntryOf A). e.key)) m.entries
  pub each : (e : EntryOf A) → e ∈ m.entries → GoodEntry Good m.seen e
  pub waiting : ValidWaiting m.waiting

abbrev pub GoodValues : List Value → Type 0
GoodValues l = (v : Value) → v ∈ l → ValidValue v

abbrev pub GoodAt : (n : ℕ) → Val n → Type 0
GoodAt zero v = GoodValues v
GoodAt (suc n) v = GoodOver (GoodAt n) v

-- an update's dot has a counter; a put's clock may be empty
abbrev pub GoodOpOf : {O : Type 0} → (O → Type 0) → OpOf O → Type 0
GoodOpOf GoodO (up d k o) = (0 < d.counter) × GoodO o
GoodOpOf GoodO (rm w) = ValidRemoval w

abbrev pub GoodOpAt : (n : ℕ) → Op n → Type 0
GoodOpAt zero o = is_empty (dots_of o.clock) ≡ false → ValidValue o
GoodOpAt (suc n) o = GoodOpOf (GoodOpAt n) o
