-- Entries of an image one after the other: what is left of them from a cursor on, and where the next one's records stand.
use Rattle.std.specs.Prelude.{◌≡◌, List, ◌∷◌, ℕ, ◌+◌, ◌≤◌, ◌<◌, length, get_or}
use Rattle.listlaws.specs.Order.{◌∈◌}
use Rattle.limits.specs.Limits.{dot_limit, value_limit}
use Rattle.clock.specs.Dots.{dots_of}
use Rattle.clock.specs.Lawful.{Lawful}
use Rattle.register.specs.declared.Value.{Value}
use Rattle.register.specs.Values.{no_value}
use Rattle.entries.specs.declared.Entry.{Entry}
use Rattle.entries.specs.Model.{dots_in, values_in, LaidDown}
use Rattle.entries.specs.Valid.{ValidValue}
use Rattle.records.specs.Kinds.{entry_dot_kind, value_kind, value_dot_kind}
use Rattle.clockimage.specs.Image.{dot_records}
use Rattle.mapimage.specs.MapImage.{flat_from, entry_records}
use Rattle.walks.specs.declared.Layout.{Layout}
use Rattle.walks.specs.declared.Span.{Span}
use Rattle.keyed.specs.Keyed.{RecordsLie, Owned}
use Rattle.entrywalk.specs.declared.Cursor.{Cursor}
use Rattle.entrywalk.specs.declared.Lain.{Lain}

-- above every key
abbrev pub beyond_keys : ℕ
beyond_keys = 4294967296

abbrev pub span_between : ℕ → ℕ → Span
span_between i j = record { from = i; to = j }

-- the dots of some values of a key stand within s, each one's from its start to the next
pub record Runs (s : List ℕ) (key : ℕ) (l : List Value) (starts : List ℕ) : Type 0 where
  pub each : (j : ℕ) → j < length l → RecordsLie s (dot_records value_dot_kind j key (dots_of (get_or l j no_value).clock))
      (span_between (get_or starts j 0) (get_or starts (j + 1) 0))

-- an entry of a map within the limits
pub record Fit (e : Entry) : Type 0 where
  pub laid : LaidDown e
  pub clock : Lawful (dots_in e)
  pub few : length (values_in e) ≤ value_limit
  pub valid : (v : Value) → v ∈ values_in e → ValidValue v
  pub short : (v : Value) → v ∈ values_in e → length (dots_of v.clock) ≤ dot_limit

-- the records of these entries stand from the cursor's places to the ends of their sections
pub record Ahead (s : List ℕ) (l : Layout) (x : Cursor) (es : List Entry) : Type 0 where
  pub own : Owned s x.own l.third es
  pub values : RecordsLie s (flat_from (entry_records value_kind) 0 es) (span_between x.value l.fourth)
  pub clocks : RecordsLie s (flat_from (entry_records value_dot_kind) 0 es) (span_between x.dot l.fifth)
  pub each : (e : Entry) → e ∈ es → Fit e

-- an entry lies there
pub record LiesAt (s : List ℕ) (e : Entry) (r : Lain) : Type 0 where
  pub fit : Fit e
  pub key : r.key ≡ e.key
  pub dots : RecordsLie s (entry_records entry_dot_kind 0 e) r.dots
  pub short : length (dots_in e) ≤ dot_limit
  pub values : RecordsLie s (entry_records value_kind 0 e) r.values
  pub runs : Runs s e.key (values_in e) r.starts

-- the first of some entries lies there, and the others' records stand behind it
pub record Steps (s : List ℕ) (l : Layout) (x : Cursor) (es : List Entry) (r : Lain) : Type 0 where
  pub entry : Entry
  pub more : List Entry
  pub parts : es ≡ entry ∷ more
  pub lies : LiesAt s entry r
  pub onward : x.own < r.next.own
  pub rest : Ahead s l r.next more
