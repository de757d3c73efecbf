-- Step 4: what a record needs, among the records that stay before it and those that step 3 left.
use Rattle.std.specs.Prelude.{Bool, true, cond, ◌&&◌, List, eqb, leb}
use Rattle.listlaws.specs.First.{some}
use Rattle.records.specs.declared.Record.{Record}
use Rattle.records.specs.Kinds.{clock_dot_kind, entry_dot_kind, value_kind, value_dot_kind, waiting_dot_kind, waiting_key_kind}
use Rattle.scan.specs.Limits.{room}
use Rattle.clockimage.specs.Image.{is_kind}
use Rattle.maprecords.specs.Reading.{under_key, under_index, under_both}

-- "an entry dot must lie within the kept map clock": that has its actor at its counter or above
abbrev pub clock_dot_above : Record → Record → Bool
clock_dot_above r s = is_kind clock_dot_kind s && (eqb s.actor r.actor && leb r.number s.number)

abbrev pub within_kept_clock : List Record → Record → Bool
within_kept_clock seen r = some (clock_dot_above r) seen

-- "a value needs its entry and a value dot of its own left by step 3"
abbrev pub value_supplied : List Record → List Record → Record → Bool
value_supplied third seen r = some (under_key entry_dot_kind r.key) seen && some (under_both value_dot_kind r.key r.index) third

-- "a value dot its value"
abbrev pub has_value : List Record → Record → Bool
has_value seen r = some (under_both value_kind r.key r.index) seen

-- "a waiting key its waiting clock"
abbrev pub has_waiting_clock : List Record → Record → Bool
has_waiting_clock seen r = some (under_index waiting_dot_kind r.index) seen

-- "what it needs stays": by its kind; map clock dots and waiting clock dots need nothing
abbrev pub need_met : List Record → List Record → Record → Bool
need_met third seen r =
    cond (is_kind entry_dot_kind r) (within_kept_clock seen r)
    (cond (is_kind value_kind r) (value_supplied third seen r)
    (cond (is_kind value_dot_kind r) (has_value seen r)
    (cond (is_kind waiting_key_kind r) (has_waiting_clock seen r) true)))

-- "a record stays only if what it needs stays and its limit isn't yet full": an image's limits, which count only what stays
abbrev pub kept_by_four : List Record → List Record → Record → Bool
kept_by_four third seen r = need_met third seen r && room seen r
