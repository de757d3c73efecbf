-- The image of a map: its records by kind, key, index and actor.
use Rattle.std.specs.Prelude.{ℕ, ◌+◌, ◌*◌, ◌/◌, ◌%◌, cond, List, [], ◌∷◌, ◌++◌, map, eqb}
use Rattle.clock.specs.declared.Dot.{Dot}
use Rattle.limits.specs.Limits.{dot_limit, value_limit, key_limit}
use Rattle.clock.specs.Dots.{dots_of}
use Rattle.register.specs.declared.Value.{Value}
use Rattle.entries.specs.declared.Entry.{Entry}
use Rattle.removals.specs.declared.Removal.{Removal}
use Rattle.removals.specs.Model.{under_of, listed_in}
use Rattle.entries.specs.Model.{dots_in, values_in}
use Rattle.map.specs.declared.Map.{Map}
use Rattle.map.specs.Model.{seen_by, entries_in, waiting_in}
use Rattle.records.specs.declared.Record.{Record}
use Rattle.records.specs.Records.{bytes_of}
use Rattle.records.specs.Kinds.{clock_dot_kind, entry_dot_kind, value_kind, value_dot_kind, waiting_dot_kind, waiting_key_kind}
use Rattle.scan.specs.Limits.{Limits, today}
use Rattle.clockimage.specs.Image.{dot_records, content_record}
use Rattle.mapimage.specs.Sorted.{in_order}

-- a map clock, entries with their dots, values and value dots, waiting removals with their dots and keys
abbrev pub longest_by : Limits → ℕ
longest_by t = (dot_limit + t.entries * (dot_limit + value_limit * (1 + dot_limit)) + t.waiting * (dot_limit + key_limit)) * 16

abbrev pub map_longest : ℕ
map_longest = longest_by today

-- what f gives of each element and its place, counted from i
unfoldable pub flat_from : {A B : Type 0} → (ℕ → A → List B) → ℕ → List A → List B
flat_from f i [] = []
flat_from f i (x ∷ l) = f i x ++ flat_from f (i + 1) l

abbrev pub value_record : ℕ → ℕ → Value → Record
value_record key index v = content_record value_kind index key v.value

-- of a value, the record of kind 3 or the dots of kind 4
abbrev pub value_records : ℕ → ℕ → ℕ → Value → List Record
value_records kind key index v = cond (eqb kind value_kind) (value_record key index v ∷ []) (dot_records value_dot_kind index key (dots_of v.clock))

-- of an entry, the dots of kind 2, the values of kind 3 or the value dots of kind 4
abbrev pub entry_records : ℕ → ℕ → Entry → List Record
entry_records kind place e =
    cond (eqb kind entry_dot_kind) (dot_records entry_dot_kind 0 e.key (dots_in e)) (flat_from (value_records kind e.key) 0 (values_in e))

abbrev pub waiting_dots : ℕ → Removal → List Record
waiting_dots index w = dot_records waiting_dot_kind index 0 (under_of w)

-- a waiting key and its index as one number, by which they ascend
abbrev pub key_number : ℕ → ℕ → ℕ
key_number index k = k * 256 + index

abbrev pub key_numbers : ℕ → Removal → List ℕ
key_numbers index w = map (key_number index) (listed_in w)

abbrev pub number_record : ℕ → Record
number_record n = record { kind = waiting_key_kind; index = n % 256; actor = 0; key = n / 256; number = 0 }

-- the keys of waiting removals: by key, then by index
abbrev pub waiting_keys : List Removal → List Record
waiting_keys l = map number_record (in_order (flat_from key_numbers 0 l))

abbrev pub records_in : List Dot → List Entry → List Removal → List Record
records_in c e w =
    dot_records clock_dot_kind 0 0 c ++ (flat_from (entry_records entry_dot_kind) 0
    e ++ (flat_from (entry_records value_kind) 0 e ++ (flat_from (entry_records value_dot_kind) 0 e
    ++ (flat_from waiting_dots 0 w ++ waiting_keys w))))

abbrev pub map_records : Map → List Record
map_records m = records_in (seen_by m) (entries_in m) (waiting_in m)

-- the image of a map
abbrev pub map_image : Map → List ℕ
map_image m = bytes_of (map_records m)
