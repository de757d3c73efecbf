-- The memory of a reader of pieces: where its numbers stand, and the clock, the entries and the waiting removals that it holds.
use Rattle.std.specs.Prelude.{List, map, ℕ, ◌+◌, ◌*◌, min, eqb}
use Rattle.clock.specs.declared.Dot.{Dot}
use Rattle.limits.specs.Limits.{dot_limit, value_limit, entry_limit, waiting_limit, key_limit}
use Rattle.clock.specs.Dots.{clock_of}
use Rattle.register.specs.declared.Content.{Content}
use Rattle.register.specs.declared.Value.{Value}
use Rattle.entries.specs.declared.Entry.{Entry}
use Rattle.removals.specs.declared.Removal.{Removal}
use Rattle.entries.specs.Model.{entry_as}
use Rattle.removals.specs.Model.{removal_as}
use Rattle.records.specs.Bytes.{num_at}
use Rattle.records.specs.Records.{record_from}
use Rattle.scan.specs.declared.Scan.{Scan}
use Rattle.maprecords.specs.Reading.{numbers_below}

-- whether it is open (1), the length so far in four bytes, a record that is not whole yet
abbrev pub open_place : ℕ
open_place = 0

abbrev pub length_place : ℕ
length_place = open_place + 1

abbrev pub held_place : ℕ
held_place = length_place + 4

-- what the scan of the records so far holds: its number, whether there is a last record, that record, three counts of two bytes
abbrev pub number_place : ℕ
number_place = held_place + 16

abbrev pub any_place : ℕ
any_place = number_place + 1

abbrev pub last_place : ℕ
last_place = any_place + 1

abbrev pub counts_place : ℕ
counts_place = last_place + 16

-- the waiting keys under each index; whether a record did not find what it needs, how many entries there are, how many waiting removals
abbrev pub under_place : ℕ
under_place = counts_place + 6

abbrev pub lost_place : ℕ
lost_place = under_place + 256

abbrev pub entries_place : ℕ
entries_place = lost_place + 1

abbrev pub waits_place : ℕ
waits_place = entries_place + 1

-- a clock: how many dots, and ten bytes for each
abbrev pub dot_room : ℕ
dot_room = 10

abbrev pub clock_room : ℕ
clock_room = 1 + dot_limit * dot_room

abbrev pub clock_place : ℕ
clock_place = waits_place + 1

-- a value: its number, its clock and its origin; an entry: its key, its clock, how many values, and these
abbrev pub value_room : ℕ
value_room = 8 + clock_room + 2

abbrev pub entry_room : ℕ
entry_room = 4 + clock_room + 1 + value_limit * value_room

abbrev pub entry_place : ℕ → ℕ
entry_place j = clock_place + clock_room + j * entry_room

abbrev pub own_place : ℕ → ℕ
own_place j = entry_place j + 4

abbrev pub values_place : ℕ → ℕ
values_place j = own_place j + clock_room

abbrev pub value_place : ℕ → ℕ → ℕ
value_place j i = values_place j + 1 + i * value_room

-- a waiting removal: its clock, how many keys, and these
abbrev pub removal_room : ℕ
removal_room = clock_room + 1 + key_limit * 4

abbrev pub removal_place : ℕ → ℕ
removal_place k = entry_place entry_limit + k * removal_room

abbrev pub keys_place : ℕ → ℕ
keys_place k = removal_place k + clock_room

abbrev pub key_place : ℕ → ℕ → ℕ
key_place k i = keys_place k + 1 + i * 4

-- the bytes of a reader
abbrev pub reader_room : ℕ
reader_room = removal_place waiting_limit

-- a count of one byte, or the limit where it is more
abbrev pub count_at : ℕ → ℕ → List ℕ → ℕ
count_at limit at w = min (num_at 0 at w) limit

-- what stands in the memory as a scan
abbrev pub scan_at : List ℕ → Scan
scan_at w = record {
  number = num_at 0 number_place w;
  any = eqb (num_at 0 any_place w) 1;
  last = record_from w last_place;
  outer = num_at 1 counts_place w;
  middle = num_at 1 (counts_place + 2) w;
  inner = num_at 1 (counts_place + 4) w;
}

-- as a clock's dots
abbrev pub dot_at : List ℕ → ℕ → Dot
dot_at w at = record { actor = num_at 1 at w; counter = num_at 3 (at + 2) w }

unfoldable pub dots_at : List ℕ → ℕ → List Dot
dots_at w at = map (λ i. dot_at w (at + 1 + i * dot_room)) (numbers_below (count_at dot_limit at w))

-- as entries
abbrev pub content_at : List ℕ → ℕ → Content
content_at w at = record { number = num_at 3 at w; origin = num_at 1 (at + 8 + clock_room) w }

abbrev pub value_at : List ℕ → ℕ → Value
value_at w at = record { clock = clock_of (dots_at w (at + 8)); value = content_at w at }

unfoldable pub values_at : List ℕ → ℕ → List Value
values_at w j = map (λ i. value_at w (value_place j i)) (numbers_below (count_at value_limit (values_place j) w))

abbrev pub key_at : List ℕ → ℕ → ℕ
key_at w j = num_at 2 (entry_place j) w

abbrev pub entry_held_at : List ℕ → ℕ → Entry
entry_held_at w j = entry_as (key_at w j) (dots_at w (own_place j)) (values_at w j)

abbrev pub entry_count : List ℕ → ℕ
entry_count w = count_at entry_limit entries_place w

unfoldable pub entries_at : List ℕ → List Entry
entries_at w = map (entry_held_at w) (numbers_below (entry_count w))

-- as waiting removals
unfoldable pub listed_at : List ℕ → ℕ → List ℕ
listed_at w k = map (λ i. num_at 2 (key_place k i) w) (numbers_below (count_at key_limit (keys_place k) w))

abbrev pub removal_at : List ℕ → ℕ → Removal
removal_at w k = removal_as (dots_at w (removal_place k)) (listed_at w k)

abbrev pub waiting_count_at : List ℕ → ℕ
waiting_count_at w = count_at waiting_limit waits_place w

unfoldable pub waiting_at : List ℕ → List Removal
waiting_at w = map (removal_at w) (numbers_below (waiting_count_at w))
