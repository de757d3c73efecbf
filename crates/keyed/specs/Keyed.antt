-- The records of one entry where they lie, and of entries one after the other.
use Rattle.std.specs.Prelude.{◌≡◌, false, List, ◌∷◌, ℕ, ◌*◌, ◌≤◌, ◌<◌, length}
use Rattle.listlaws.specs.Order.{◌∈◌, Ascending, by}
use Rattle.limits.specs.Limits.{dot_limit, value_limit}
use Rattle.clock.specs.Dots.{dots_of, clock_of, is_empty}
use Rattle.register.specs.declared.Value.{Value}
use Rattle.entries.specs.declared.Entry.{Entry}
use Rattle.entries.specs.Model.{dots_in, values_in}
use Rattle.entries.specs.Valid.{ValidValue}
use Rattle.records.specs.declared.Record.{Record}
use Rattle.records.specs.Kinds.{entry_dot_kind, value_kind, value_dot_kind}
use Rattle.mapimage.specs.MapImage.{flat_from, value_records, entry_records}
use Rattle.walks.specs.Walk.{part}
use Rattle.walks.specs.declared.Span.{Span}
use Rattle.keyed.specs.declared.Spans.{Spans}
use Rattle.keyed.specs.declared.Stop.{Stop}

-- these records stand there, within s
pub record RecordsLie (s : List ℕ) (l : List Record) (r : Span) : Type 0 where
  pub order : r.from ≤ r.to
  pub within : r.to * 16 ≤ length s
  pub records : part s r.from r.to ≡ l

-- values within the limits, and where their records and those of their dots stand
pub record Registered (s : List ℕ) (l : List Value) (values clocks : Span) : Type 0 where
  pub key : ℕ
  pub few : length l ≤ value_limit
  pub each : (v : Value) → v ∈ l → ValidValue v
  pub short : (v : Value) → v ∈ l → length (dots_of v.clock) ≤ dot_limit
  pub third : RecordsLie s (flat_from (value_records value_kind key) 0 l) values
  pub fourth : RecordsLie s (flat_from (value_records value_dot_kind key) 0 l) clocks

-- the records of an entry
pub record EntryLies (s : List ℕ) (e : Entry) (r : Spans) : Type 0 where
  pub dots : RecordsLie s (entry_records entry_dot_kind 0 e) r.dots
  pub short : length (dots_in e) ≤ dot_limit
  pub register : Registered s (values_in e) r.values r.clocks
  pub key : register.key ≡ e.key

-- the dots of these entries stand from `at` to `end`, within s
pub record Owned (s : List ℕ) (at end : ℕ) (l : List Entry) : Type 0 where
  pub order : at ≤ end
  pub within : end * 16 ≤ length s
  pub records : part s at end ≡ flat_from (entry_records entry_dot_kind) 0 l
  pub rising : Ascending (by (λ e. e.key)) l
  pub some : (e : Entry) → e ∈ l → is_empty (dots_in e) ≡ false
  pub short : (e : Entry) → e ∈ l → length (dots_in e) ≤ dot_limit

-- the first of them, and where the others' dots begin
pub record Stops (s : List ℕ) (at end : ℕ) (l : List Entry) (r : Stop) : Type 0 where
  pub entry : Entry
  pub more : List Entry
  pub parts : l ≡ entry ∷ more
  pub key : r.key ≡ entry.key
  pub clock : r.clock ≡ clock_of (dots_in entry)
  pub onward : at < r.next
  pub rest : Owned s r.next end more
