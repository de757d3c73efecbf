-- What the tables of step 5 hold: for each waiting index the lowest one with its clock, and the place of that clock.
use Rattle.std.specs.Prelude.{◌≡◌, true, List, ◌∷◌, ℕ, ◌+◌, ◌*◌, ◌/◌, ◌≤◌, ◌<◌, length, drop, get_or}
use Rattle.listlaws.specs.Order.{◌∈◌}
use Rattle.clock.specs.declared.Dot.{Dot}
use Rattle.records.specs.declared.Record.{Record}
use Rattle.records.specs.Records.{record_from}
use Rattle.records.specs.Kinds.{waiting_dot_kind}
use Rattle.clockimage.specs.Image.{dot_of, dots_from}
use Rattle.maprecords.specs.Reading.{under_index}
use Rattle.salvagerules.specs.Indexes.{waiting_clock, waiting_indexes, waiting_index, is_lowest}
use Rattle.culling.specs.Marks.{marked_of, left_items}

-- the records that step 4 left, by marks of step 5
abbrev pub fourth_of : List ℕ → List ℕ → List Record
fourth_of marks s = left_items 5 (marked_of marks s)

-- the dots of a waiting index from a place on
abbrev pub dots_after : List ℕ → List ℕ → ℕ → ℕ → List Dot
dots_after marks s index i = dots_from (under_index waiting_dot_kind index) (left_items 5 (drop i (marked_of marks s)))

-- `place` is that of the first dot of an index from a place on, or the number of records
pub record DotPlace (marks s : List ℕ) (index from place : ℕ) : Type 0 where
  pub above : from ≤ place
  pub inside : place ≤ length s / 16
  pub rest : dots_after marks s index from ≡ dots_after marks s index place
  pub here : place < length s / 16 → dots_after marks s index place ≡ dot_of (record_from s (place * 16)) ∷ dots_after marks s index (place + 1)

-- `lead` is the lowest index with the clock of an index, or 256 where that has none
pub record Led (k : List Record) (index lead : ℕ) : Type 0 where
  pub waits : index ∈ waiting_indexes k → (lead ∈ waiting_indexes k) × (is_lowest k lead ≡ true) × (waiting_clock k lead ≡ waiting_clock k index)
      × (lead ≤ index)
  pub none : (index ∈ waiting_indexes k → ⊥) → lead ≡ 256

-- a table of leads
pub record LeadsOf (k : List Record) (leads : List ℕ) : Type 0 where
  pub long : length leads ≡ 256
  pub each : (w : ℕ) → w < 256 → Led k w (get_or leads w 0)
  pub bytes : (w : ℕ) → w ∈ waiting_indexes k → w < 256

-- a table of the places that waiting clocks take
pub record RanksOf (k : List Record) (ranks : List ℕ) : Type 0 where
  pub long : length ranks ≡ 256
  pub each : (w : ℕ) → w ∈ waiting_indexes k → get_or ranks w 0 ≡ waiting_index k w
