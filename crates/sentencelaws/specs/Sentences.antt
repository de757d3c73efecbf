-- 01 "Related records", sentence by sentence, of the records of an image; and an image that gets as far as number 3.
use Rattle.std.specs.Prelude.{◌≡◌, true, List, ℕ, ◌+◌, ◌%◌, ◌≤◌, ◌<◌, length}
use Rattle.listlaws.specs.Order.{◌∈◌}
use Rattle.clock.specs.Dots.{counter_in}
use Rattle.removals.specs.Waits.{clock_before}
use Rattle.records.specs.declared.Record.{Record}
use Rattle.records.specs.Records.{records_of}
use Rattle.records.specs.Kinds.{entry_dot_kind, value_kind, value_dot_kind, waiting_dot_kind, waiting_key_kind, removal_kind, removal_dot_kind}
use Rattle.records.specs.Kinds.{removal_key_kind}
use Rattle.records.specs.Kinds.{update_kind, put_value_kind, put_dot_kind}
use Rattle.scan.specs.Formed.{well_formed}
use Rattle.scan.specs.Limits.{within}
use Rattle.clockimage.specs.Image.{dots_from}
use Rattle.opimage.specs.OpImage.{how_many}
use Rattle.maprecords.specs.Reading.{under_index}
use Rattle.clockimage.specs.ClockImage.{clock_in}

-- some record of the image is so
abbrev pub Stands : List Record → (Record → Type 0) → Type 0
Stands l So = (s : Record) × (s ∈ l) × So s

-- of a kind, under a key and an index; under a key; under an index
abbrev pub RecordUnder : ℕ → ℕ → ℕ → Record → Type 0
RecordUnder kind key index s = (s.kind ≡ kind) × ((s.key ≡ key) × (s.index ≡ index))

abbrev pub UnderKey : ℕ → ℕ → Record → Type 0
UnderKey kind key s = (s.kind ≡ kind) × (s.key ≡ key)

abbrev pub UnderIndex : ℕ → ℕ → Record → Type 0
UnderIndex kind index s = (s.kind ≡ kind) × (s.index ≡ index)

pub record MapSentences (l : List Record) : Type 0 where
  -- "value and value dot need each other"
  pub value-needs-dot : (r : Record) → r ∈ l → r.kind ≡ value_kind → Stands l (RecordUnder value_dot_kind r.key r.index)
  pub dot-needs-value : (r : Record) → r ∈ l → r.kind ≡ value_dot_kind → Stands l (RecordUnder value_kind r.key r.index)
  -- "and an entry"
  pub value-needs-entry : (r : Record) → r ∈ l → r.kind ≡ value_kind → Stands l (UnderKey entry_dot_kind r.key)
  pub dot-needs-entry : (r : Record) → r ∈ l → r.kind ≡ value_dot_kind → Stands l (UnderKey entry_dot_kind r.key)
  -- "indexes have no gap"
  pub values-no-gap : (r : Record) → r ∈ l → r.kind ≡ value_kind → (j : ℕ) → j < r.index → Stands l (RecordUnder value_kind r.key j)
  pub waiting-no-gap : (r : Record) → r ∈ l → r.kind ≡ waiting_dot_kind → (j : ℕ) → j < r.index → Stands l (UnderIndex waiting_dot_kind j)
  -- "a waiting key needs a waiting clock"
  pub key-needs-clock : (r : Record) → r ∈ l → r.kind ≡ waiting_key_kind → Stands l (UnderIndex waiting_dot_kind r.index)
  -- "waiting clocks differ and ascend"
  pub clocks-ascend : (r s : Record) → r ∈ l → s ∈ l → r.kind ≡ waiting_dot_kind → s.kind ≡ waiting_dot_kind → r.index < s.index
      → clock_before (dots_from (under_index waiting_dot_kind r.index) l) (dots_from (under_index waiting_dot_kind s.index) l) ≡ true
  -- "entry dots lie within the map clock"
  pub dots-within : (r : Record) → r ∈ l → r.kind ≡ entry_dot_kind → r.number ≤ counter_in (clock_in l) r.actor

pub record OpSentences (l : List Record) : Type 0 where
  -- "An operation has one head"
  pub one-head : how_many removal_kind l + how_many update_kind l ≡ 1
  -- "kinds 8 and 9 go with 7"
  pub dots-with-removal : (r : Record) → r ∈ l → r.kind ≡ removal_dot_kind → Stands l (λ s. s.kind ≡ removal_kind)
  pub keys-with-removal : (r : Record) → r ∈ l → r.kind ≡ removal_key_kind → Stands l (λ s. s.kind ≡ removal_kind)
  -- "kinds 11 (exactly one) and 12 go with 10"
  pub one_value : (r : Record) → r ∈ l → r.kind ≡ update_kind → how_many put_value_kind l ≡ 1
  pub value-with-update : (r : Record) → r ∈ l → r.kind ≡ put_value_kind → Stands l (λ s. s.kind ≡ update_kind)
  pub dots-with-update : (r : Record) → r ∈ l → r.kind ≡ put_dot_kind → Stands l (λ s. s.kind ≡ update_kind)

-- within its longest length, of whole records, well formed and within the limits: neither 1 nor 2
pub record SoundImage (longest low high : ℕ) (s : List ℕ) : Type 0 where
  pub short : length s ≤ longest
  pub whole : length s % 16 ≡ 0
  pub formed : well_formed low high (records_of s) ≡ true
  pub few : within (records_of s) ≡ true

-- the number is 0 where every sentence holds, and 3 exactly where one of them fails
pub record Three (Sentences : Type 0) (number : ℕ) : Type 0 where
  pub all_hold : Sentences → number ≡ 0
  pub one-fails : (Sentences → ⊥) → number ≡ 3
  pub three-means : number ≡ 3 → Sentences → ⊥
  pub zero-means : number ≡ 0 → Sentences
