-- When the records of a map's image are related, and what an image is as a map.
use Rattle.std.specs.Prelude.{ℕ, ◌%◌, Bool, true, not, cond, ◌&&◌, List, [], ◌∷◌, eqb, ltb, leb, length}
use Rattle.listlaws.specs.First.{some}
use Rattle.clock.specs.declared.Dot.{Dot}
use Rattle.clock.specs.Dots.{dots_of, is_empty, covers}
use Rattle.register.specs.declared.Value.{Value}
use Rattle.entries.specs.declared.Entry.{Entry}
use Rattle.removals.specs.declared.Removal.{Removal}
use Rattle.entries.specs.Model.{dots_in, values_in}
use Rattle.removals.specs.Waits.{removal_before}
use Rattle.map.specs.declared.Map.{Map}
use Rattle.map.specs.Model.{no_map}
use Rattle.records.specs.declared.Record.{Record}
use Rattle.records.specs.Kinds.{clock_dot_kind, value_kind, value_dot_kind, waiting_dot_kind, waiting_key_kind}
use Rattle.scan.specs.Each.{every, each}
use Rattle.scan.specs.Numbers.{scan_number}
use Rattle.clockimage.specs.Image.{is_kind, image_of}
use Rattle.mapimage.specs.MapImage.{map_longest}
use Rattle.clockimage.specs.ClockImage.{clock_in}
use Rattle.maprecords.specs.Reading.{entries_for, waiting_count, waiting_for, map_in}
use Rattle.std.specs.declared.result.Result.{Result}
use Rattle.refusals.specs.declared.Refusal.{Refusal}
use Rattle.refusals.specs.Numbers.{number_told, done_or}

-- a value needs an entry, and its index is the next of its key: "indexes have no gap"
abbrev pub value_fits : Record → Entry → Bool
value_fits r e = eqb e.key r.key && eqb (length (values_in e)) r.index

-- a value dot needs its value
abbrev pub value_dot_fits : Record → Entry → Bool
value_dot_fits r e = eqb e.key r.key && ltb r.index (length (values_in e))

-- a value or value dot finds what it needs in these entries
abbrev pub entry_fits : List Entry → Record → Bool
entry_fits es r = cond (is_kind value_kind r) (some (value_fits r) es) (cond (is_kind value_dot_kind r) (some (value_dot_fits r) es) true)

-- the index of a waiting clock leaves no gap; a waiting key needs a waiting clock
abbrev pub waiting_fits : ℕ → Record → Bool
waiting_fits n r = cond (is_kind waiting_dot_kind r) (leb r.index n) (cond (is_kind waiting_key_kind r) (ltb r.index n) true)

-- a record finds what it needs among those before it
abbrev pub finds_place : List Record → Record → Bool
finds_place seen r = entry_fits (entries_for seen) r && waiting_fits (waiting_count seen) r

-- "value and value dot need each other": each value has a dot; "entry dots lie within the map clock"
abbrev pub dotted : Value → Bool
dotted v = not (is_empty (dots_of v.clock))

abbrev pub entry_whole : List Dot → Entry → Bool
entry_whole c e = covers c (dots_in e) && every dotted (values_in e)

-- "waiting clocks differ and ascend"
unfoldable pub ascend : List Removal → Bool
ascend [] = true
ascend (v ∷ []) = true
ascend (v ∷ (w ∷ l)) = removal_before v w && ascend (w ∷ l)

unfoldable pub related : List Record → Bool
related l = each finds_place l && (every (entry_whole (clock_in l)) (entries_for l) && ascend (waiting_for l))

-- a number of 01, and the map, which is empty where the number is not 0
pub record ReadMap : Type 0 where
  pub number : ℕ
  pub map : Map

-- what reading a map answers
abbrev pub map_reading : Result Map Refusal → ReadMap
map_reading r = record { number = number_told r; map = done_or no_map r }

abbrev pub refused_map : ℕ → ReadMap
refused_map n = record { number = n; map = no_map }

-- the records of a map's image: 1, 2, 3, or the map
abbrev pub judged_map : List Record → ReadMap
judged_map l =
    cond (eqb (scan_number clock_dot_kind waiting_key_kind l) 0) (cond (related l) (record { number = 0; map = map_in l }) (refused_map 3))
    (refused_map (scan_number clock_dot_kind waiting_key_kind l))

-- what a length alone is answered with: "length above longest is 2 at once", then a bad length is 1
abbrev pub length_number : ℕ → ℕ
length_number n = cond (ltb map_longest n) 2 (cond (eqb (n % 16) 0) 0 1)

-- what a list of bytes is as a map's image
unfoldable pub read_map : List ℕ → ReadMap
read_map s = image_of map_longest refused_map judged_map s
