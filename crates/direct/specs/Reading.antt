-- The records of a key's image, where they lie in the whole.
use Rattle.std.specs.Prelude.{List, ◌++◌, ℕ, ◌*◌, ◌≤◌, length}
use Rattle.records.specs.declared.Record.{Record}
use Rattle.walks.specs.declared.Span.{Span}
use Rattle.keyed.specs.declared.Spans.{Spans}
use Rattle.walks.specs.Walk.{part}

-- a span within s
pub record Inside (s : List ℕ) (r : Span) : Type 0 where
  pub order : r.from ≤ r.to
  pub within : r.to * 16 ≤ length s

abbrev pub records_at : List ℕ → Span → List Record
records_at s r = part s r.from r.to

-- the map clock's records and an entry's, one behind the other
abbrev pub key_records : List ℕ → Span → Spans → List Record
key_records s clock at = records_at s clock ++ (records_at s at.dots ++ (records_at s at.values ++ records_at s at.clocks))
