-- What survives where the damage is only records lost from an accepted image.
use Rattle.std.specs.Prelude.{◌≡◌, List, [], ◌∷◌, ℕ, ◌≤◌}
use Rattle.listlaws.specs.Order.{◌∈◌}
use Rattle.listlaws.specs.Sift.{those}
use Rattle.entries.specs.Entries.{entry_at}
use Rattle.map.specs.Model.{entries_in}
use Rattle.records.specs.declared.Record.{Record}
use Rattle.records.specs.Records.{records_of}
use Rattle.records.specs.Kinds.{clock_dot_kind, entry_dot_kind, value_kind, value_dot_kind}
use Rattle.maprecords.specs.Reading.{under_key, entry_in}
use Rattle.maprecords.specs.Related.{read_map}

-- the one list is the other with some elements lost
pub data SomeOf {A : Type 0} : List A → List A → Type 0 where
  no_more : SomeOf [] []
  left-too : {x : A} {l m : List A} → SomeOf l m → SomeOf (x ∷ l) (x ∷ m)
  lost : {x : A} {l m : List A} → SomeOf l m → SomeOf l (x ∷ m)

-- an entry's own records: its dots, its values, their dots
abbrev pub OfEntry : ℕ → Record → Type 0
OfEntry key r = (r.key ≡ key) × ((entry_dot_kind ≤ r.kind) × (r.kind ≤ value_dot_kind))

-- all of an entry's own records are left, and the map clock's dots of its actors
pub record EntryLeft (whole left : List Record) (key : ℕ) : Type 0 where
  pub records : (r : Record) → r ∈ whole → OfEntry key r → r ∈ left
  pub clock : (r c : Record) → r ∈ whole → r.kind ≡ entry_dot_kind → r.key ≡ key → c ∈ whole → c.kind ≡ clock_dot_kind → c.actor ≡ r.actor → c ∈ left

-- the entry comes back whole: its records, index and all, and what they stand for
pub record EntryBack (whole out : List Record) (key : ℕ) : Type 0 where
  pub dots : those (under_key entry_dot_kind key) out ≡ those (under_key entry_dot_kind key) whole
  pub values : those (under_key value_kind key) out ≡ those (under_key value_kind key) whole
  pub value-dots : those (under_key value_dot_kind key) out ≡ those (under_key value_dot_kind key) whole
  pub entry : entry_in out key ≡ entry_in whole key

-- no dot of the map clock that is left goes
abbrev pub ClockBack : List Record → List Record → Type 0
ClockBack left out = (c : Record) → c ∈ left → c.kind ≡ clock_dot_kind → c ∈ out

-- of an image that was accepted and of what was handed over for what is left of it: the entry, clock and register, is that of the map that was
pub record Survived (image out : List ℕ) (key : ℕ) : Type 0 where
  pub records : EntryBack (records_of image) (records_of out) key
  pub entry : entry_at key (entries_in (read_map out).map) ≡ entry_at key (entries_in (read_map image).map)
