-- What a map must keep for a merge with itself to give that map, in the words and order of change request 13.
use Rattle.std.specs.Prelude.{◌≡◌, true, false, ◌⊎◌, List, ◌≤◌}
use Rattle.listlaws.specs.Order.{◌∈◌}
use Rattle.clock.specs.declared.Dot.{Dot}
use Rattle.clock.specs.declared.Order.TheVariants.{Less}
use Rattle.clock.specs.Dots.{dots_of, counter_in, covers, order_of}
use Rattle.register.specs.declared.Value.{Value}
use Rattle.entries.specs.declared.Entry.{Entry}
use Rattle.removals.specs.declared.Removal.{Removal}
use Rattle.entries.specs.Model.{dots_in, values_in}
use Rattle.removals.specs.Model.{under_of, listed_in}
use Rattle.removals.specs.Waits.{listed}
use Rattle.map.specs.declared.Map.{Map}
use Rattle.map.specs.Model.{seen_by, entries_in, waiting_in}

-- "no value clock is strictly below another in its register"
abbrev pub NoneBelow : List Value → Type 0
NoneBelow l = (v w : Value) → v ∈ l → w ∈ l → order_of (dots_of v.clock) (dots_of w.clock) ≡ Less → ⊥

abbrev pub NoneDominated : Map → Type 0
NoneDominated m = (e : Entry) → e ∈ entries_in m → NoneBelow (values_in e)

-- a "dot of an entry or its values"
abbrev pub HoldsDot : Entry → Dot → Type 0
HoldsDot e d = (d ∈ dots_in e) ⊎ ((v : Value) × (v ∈ values_in e) × (d ∈ dots_of v.clock))

-- a dot "at or below" a clock
abbrev pub AtOrBelow : Dot → List Dot → Type 0
AtOrBelow d c = d.counter ≤ counter_in c d.actor

-- "no dot of an entry or its values is at or below a waiting clock listing that key"
abbrev pub Untouched : Map → Type 0
Untouched m = (e : Entry) → e ∈ entries_in m → (d : Dot) → HoldsDot e d → (r : Removal) → r ∈ waiting_in m → listed (listed_in r) e.key ≡ true
    → AtOrBelow d (under_of r) → ⊥

-- "the map clock covers no waiting clock"
abbrev pub Uncovered : Map → Type 0
Uncovered m = (r : Removal) → r ∈ waiting_in m → covers (seen_by m) (under_of r) ≡ false
