-- Document 01's numbers, and document 02's 13 and 14, as the table of each call, in the order of refusals.
use Rattle.std.specs.Prelude.{Bool, not, ◌&&◌, List, [], ◌∷◌, ◌++◌, ℕ, ◌+◌, ◌-◌, ◌%◌, ◌^◌, eqb, ltb, leb, length}
use Rattle.limits.specs.Limits.{dot_limit}
use Rattle.clock.specs.declared.Clock.{Clock}
use Rattle.clock.specs.declared.Dot.{Dot}
use Rattle.clock.specs.Dots.{dots_of, counter_in, add_dot}
use Rattle.register.specs.declared.Content.{Content}
use Rattle.map.specs.declared.Map.{Map}
use Rattle.map.specs.declared.Op.{Op}
use Rattle.map.specs.Model.{seen_by}
use Rattle.map.specs.Applying.{apply}
use Rattle.map.specs.Merging.{merge}
use Rattle.map.specs.Resetting.{reset}
use Rattle.map.specs.Judging.{exceeding, over_dots, over_entries, over_values, over_waiting, over_keys}
use Rattle.asking.specs.Contexts.{dot_after}
use Rattle.asking.specs.Asking.{validate_op, validate_merge, order_number, is_twice, make_update, removal_op, clock_at, read_key}
use Rattle.asking.specs.declared.CmRDTValidation.{CmRDTValidation}
use Rattle.asking.specs.declared.CmRDTValidation.TheVariants.{Fits, Missing}
use Rattle.records.specs.declared.Record.{Record}
use Rattle.records.specs.Records.{records_of}
use Rattle.records.specs.Kinds.{clock_dot_kind, waiting_key_kind, removal_kind, put_dot_kind}
use Rattle.scan.specs.Formed.{well_formed}
use Rattle.scan.specs.Limits.{within}
use Rattle.clockimage.specs.ClockImage.{clock_longest, read_clock}
use Rattle.opimage.specs.OpImage.{op_longest, op_related, op_image, read_op}
use Rattle.mapimage.specs.MapImage.{map_longest, map_image}
use Rattle.maprecords.specs.Related.{related, read_map}
use Rattle.advance.specs.Advancing.{rising_dots, dot_given}
use Rattle.records.specs.Bytes.{num_at}
use Rattle.memory.specs.Memory.{length_place}
use Rattle.mailbox.specs.Machine.{is_open}
use Rattle.delivery.specs.Delivery.{scanned_at, related_at, image_at}
use Rattle.loader.specs.Calls.{is_bay, bay_count}
use Rattle.loader.specs.Reports.{report_at, report_bytes, reports_after}
use Rattle.readiness.specs.declared.Readiness.{Readiness}
use Rattle.readiness.specs.Ready.{ready_number}
use Rattle.differences.specs.Differences.{differences_answer}
use Rattle.promises.specs.Ready.{readiness_of}
use Rattle.promises.specs.Calls.{given}
use Rattle.demandlaws.specs.Rows.{Row, row}

-- the records one by one: "length above longest is 2 at once, then 1, 2"
abbrev pub scan_rows : ℕ → ℕ → ℕ → List ℕ → List Row
scan_rows longest low high s =
    row 2 (ltb longest (length s))
    ∷ row 1 (not (eqb (length s % 16) 0 && well_formed low high (records_of s)))
    ∷ row 2 (not (within (records_of s)))
    ∷ []

-- "related records wrong"
abbrev pub unrelated : (List Record → Bool) → List ℕ → List Row
unrelated fits s = row 3 (not (fits (records_of s))) ∷ []

abbrev pub map_rows : List ℕ → List Row
map_rows s = scan_rows map_longest clock_dot_kind waiting_key_kind s ++ unrelated related s

abbrev pub op_rows : List ℕ → List Row
op_rows s = scan_rows op_longest removal_kind put_dot_kind s ++ unrelated op_related s

abbrev pub clock_rows : List ℕ → List Row
clock_rows s = scan_rows clock_longest clock_dot_kind clock_dot_kind s

-- "result over the limit on clock dots, entries, values, waiting removals, keys of one"
abbrev pub limit_rows : Map → List Row
limit_rows m =
    row 4 (over_dots m) ∷ row 5 (over_entries m) ∷ row 6 (over_values m) ∷ row 7 (over_waiting m) ∷ row 8 (over_keys m) ∷ []

-- "output buffer shorter than the answer"
abbrev pub short_rows : List ℕ → List ℕ → List Row
short_rows bytes out = row 10 (ltb (length out) (length bytes)) ∷ []

-- the results
abbrev pub apply_result : List ℕ → List ℕ → Map
apply_result map op = apply (read_map map).map (read_op op).op

abbrev pub merge_result : List ℕ → List ℕ → Map
merge_result map other = merge (read_map map).map (read_map other).map

abbrev pub reset_result : List ℕ → List ℕ → Map
reset_result map clock = reset (read_map map).map (dots_of (read_clock clock).clock)

-- changing a map
abbrev pub apply_rows : List ℕ → List ℕ → List ℕ → List Row
apply_rows map op out = map_rows map ++ (op_rows op ++ (limit_rows (apply_result map op) ++ short_rows (map_image (apply_result map op)) out))

abbrev pub merge_rows : List ℕ → List ℕ → List ℕ → List Row
merge_rows map other out = map_rows map ++ (map_rows other
    ++ (limit_rows (merge_result map other) ++ short_rows (map_image (merge_result map other)) out))

-- a reset breaks no limit but that on the keys of one
abbrev pub reset_rows : List ℕ → List ℕ → List ℕ → List Row
reset_rows map clock out =
    map_rows map ++ (clock_rows clock ++ ((row 8 (over_keys (reset_result map clock)) ∷ []) ++ short_rows (map_image (reset_result map clock)) out))

-- making: "counter at 2^64-1 when making an update", then a put clock of more than 8 dots
abbrev pub made_rows : List Dot → ℕ → List Row
made_rows seen actor =
    row 9 (leb (2 ^ 64 - 1) (counter_in seen actor)) ∷ row 4 (exceeding dot_limit (add_dot seen (dot_after seen actor))) ∷ []

abbrev pub update_rows : List ℕ → ℕ → ℕ → Content → List ℕ → List Row
update_rows map actor key value out =
    map_rows map
    ++ (made_rows (seen_by (read_map map).map) actor ++ short_rows (op_image (make_update (read_map map).map actor key value).op) out)

abbrev pub removal_rows : (Map → List Dot) → List ℕ → ℕ → List ℕ → List Row
removal_rows under map key out = map_rows map ++ short_rows (op_image (removal_op (under (read_map map).map) key)) out

-- reading
abbrev pub get_rows : List ℕ → ℕ → List ℕ → List Row
get_rows map key out = map_rows map ++ short_rows (map_image (read_key (read_map map).map key)) out

-- the validations
abbrev pub missing : CmRDTValidation → Bool
missing v = not (eqb (order_number v) 0)

abbrev pub order_rows : List ℕ → List ℕ → List Row
order_rows map op = map_rows map ++ (op_rows op ++ (row 11 (missing (validate_op (read_map map).map (read_op op).op)) ∷ []))

abbrev pub spent_rows : List ℕ → List ℕ → List Row
spent_rows map other = map_rows map ++ (map_rows other ++ (row 12 (is_twice (validate_merge (read_map map).map (read_map other).map)) ∷ []))

-- the lent clock: "of more than 8 dots: 2; out of order or with a zero counter: 1; a ninth dot: 4"
abbrev pub advance_rows : Clock → ℕ → ℕ → List Row
advance_rows c actor counter =
    row 2 (ltb dot_limit c.len) ∷ row 1 (not (rising_dots 0 (dots_of c)))
    ∷ row 4 (exceeding dot_limit (add_dot (dots_of c) (dot_given c actor counter))) ∷ []

-- the loader: "14 for a bay outside 1 to 24, after the map's own, before 10"
abbrev pub bay_rows : List ℕ → ℕ → List ℕ → List Row
bay_rows map bay out = map_rows map ++ ((row 14 (not (is_bay bay)) ∷ []) ++ short_rows (report_bytes (report_at (read_map map).map bay)) out)

abbrev pub bays_rows : List ℕ → List ℕ → List Row
bays_rows map out = map_rows map ++ short_rows (reports_after (read_map map).map 0 bay_count) out

-- a map in pieces: "13 for a piece or a second end after the end, before all others"
abbrev pub closed_rows : List ℕ → List Row
closed_rows reader = row 13 (not (is_open reader)) ∷ []

-- the end: the length, the records one by one, the records as a whole, as the reader's memory has them
abbrev pub end_rows : List ℕ → List ℕ → List Row
end_rows reader out =
    closed_rows reader
    ++ ((row 2 (ltb map_longest (num_at 2 length_place reader)) ∷ row 1 (not (eqb (num_at 2 length_place reader % 16) 0))
    ∷ row 1 (eqb (scanned_at reader) 1) ∷ row 2 (eqb (scanned_at reader) 2) ∷ row 3 (not (related_at reader)) ∷ [])
    ++ short_rows (image_at reader) out)

-- the guard: "an update whose put clock lacks its own dot 19; one that was seen 20; one that must be held 21"
abbrev pub is_foreign : Readiness → Bool
is_foreign r = eqb (ready_number r) 19

abbrev pub is_seen : Readiness → Bool
is_seen r = eqb (ready_number r) 20

abbrev pub is_held : Readiness → Bool
is_held r = eqb (ready_number r) 21

abbrev pub guard_rows : Readiness → List Row
guard_rows r = row 19 (is_foreign r) ∷ row 20 (is_seen r) ∷ row 21 (is_held r) ∷ []

abbrev pub ready_rows : List ℕ → List ℕ → List Row
ready_rows map op = map_rows map ++ (op_rows op ++ guard_rows (readiness_of map op))

-- what differs: "the images' numbers and 10"
abbrev pub differences_rows : List ℕ → List ℕ → List ℕ → List Row
differences_rows map other out = map_rows map ++ (map_rows other ++ short_rows (differences_answer map other).bytes out)
