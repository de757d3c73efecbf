-- What a record, and what a scan says, does to the memory of a reader: for every content of it.
use Rattle.std.specs.Prelude.{cond, ◌&&◌, List, ℕ, ◌+◌, ◌*◌, ◌%◌, ◌^◌, eqb, ltb}
use Rattle.listlaws.specs.First.{first_in}
use Rattle.limits.specs.Limits.{dot_limit, value_limit, entry_limit, waiting_limit, key_limit}
use Rattle.records.specs.declared.Record.{Record}
use Rattle.records.specs.Bytes.{num_at, num_bytes, placed, flag_of}
use Rattle.records.specs.Records.{record_bytes}
use Rattle.records.specs.Kinds.{clock_dot_kind, entry_dot_kind, value_kind, waiting_dot_kind}
use Rattle.scan.specs.declared.Scan.{Scan}
use Rattle.maprecords.specs.Reading.{numbers_below}
use Rattle.memory.specs.Memory.{number_place, any_place, last_place, counts_place, lost_place, entries_place, waits_place, dot_room, clock_room}
use Rattle.memory.specs.Memory.{clock_place, entry_place, own_place, values_place, value_place, removal_place, keys_place, key_place, key_at}
use Rattle.memory.specs.Memory.{entry_count, waiting_count_at}

-- a number of 2 ^ k bytes in place
abbrev pub put : ℕ → ℕ → ℕ → List ℕ → List ℕ
put k at x w = placed at (num_bytes k x) w

-- a dot behind the last of a clock, where there is room
unfoldable pub dot_put : ℕ → Record → List ℕ → List ℕ
dot_put at r w =
    let n = num_at 0 at w in
    let dot = at + 1 + n * dot_room in
    cond (ltb n dot_limit) (put 0 at (n + 1) (put 3 (dot + 2) r.number (put 1 dot r.actor w))) w

-- a record did not find what it needs
unfoldable pub lose : List ℕ → List ℕ
lose w = put 0 lost_place 1 w

-- an entry with its first dot, behind the last
unfoldable pub entry_begun : ℕ → Record → List ℕ → List ℕ
entry_begun j r w = put 0 entries_place (j + 1) (put 0 (values_place j) 0
    (dot_put (own_place j) r (put 0 (own_place j) 0 (put 2 (entry_place j) r.key w))))

-- a value of an entry, where it is the next; a dot of a value, where that is there
unfoldable pub value_put : ℕ → Record → List ℕ → List ℕ
value_put j r w =
    let k = num_at 0 (values_place j) w in
    cond (eqb k r.index && ltb k value_limit)
    (put 0 (values_place j) (k + 1) (put 1 (value_place j k + 8 + clock_room) r.actor
    (put 0 (value_place j k + 8) 0 (put 3 (value_place j k) r.number w)))) (lose w)

unfoldable pub value_dot_put : ℕ → Record → List ℕ → List ℕ
value_dot_put j r w =
    cond (ltb r.index (num_at 0 (values_place j) w) && ltb r.index value_limit) (dot_put (value_place j r.index + 8) r w) (lose w)

-- the first entry of a key, or how many there are
unfoldable pub entry_place_of : List ℕ → ℕ → ℕ
entry_place_of w key = first_in (λ j. eqb (key_at w j) key) (λ j. j) (entry_count w) (numbers_below (entry_count w))

-- a record of the entry at a place
unfoldable pub known_put : ℕ → Record → List ℕ → List ℕ
known_put j r w = cond (eqb r.kind entry_dot_kind) (dot_put (own_place j) r w) (cond (eqb r.kind value_kind) (value_put j r w) (value_dot_put j r w))

unfoldable pub entry_put : Record → List ℕ → List ℕ
entry_put r w =
    let n = entry_count w in
    let j = entry_place_of w r.key in
    cond (ltb j n) (known_put j r w) (cond (eqb r.kind entry_dot_kind && ltb n entry_limit) (entry_begun n r w) (lose w))

-- a waiting removal with its first dot; a key of one
unfoldable pub removal_begun : ℕ → Record → List ℕ → List ℕ
removal_begun k r w = put 0 waits_place (k + 1) (put 0 (keys_place k) 0 (dot_put (removal_place k) r (put 0 (removal_place k) 0 w)))

unfoldable pub key_put : ℕ → Record → List ℕ → List ℕ
key_put k r w =
    let n = num_at 0 (keys_place k) w in
    cond (ltb n key_limit) (put 0 (keys_place k) (n + 1) (put 2 (key_place k n) r.key w)) w

unfoldable pub waiting_put : ℕ → Record → List ℕ → List ℕ
waiting_put k r w =
    let n = waiting_count_at w in
    cond (ltb k n) (cond (eqb r.kind waiting_dot_kind) (dot_put (removal_place k) r w) (key_put k r w))
    (cond (eqb r.kind waiting_dot_kind && (eqb k n && ltb k waiting_limit)) (removal_begun k r w) (lose w))

-- a record where it belongs
unfoldable pub record_put : Record → List ℕ → List ℕ
record_put r w = cond (eqb r.kind clock_dot_kind) (dot_put clock_place r w)
    (cond (ltb r.kind waiting_dot_kind) (entry_put r w) (waiting_put r.index r w))

-- the scan's numbers
unfoldable pub scan_put : Scan → List ℕ → List ℕ
scan_put s w =
    put 1 (counts_place + 4) (s.inner % 2 ^ 16) (put 1 (counts_place + 2) (s.middle % 2 ^ 16) (put 1 counts_place (s.outer % 2 ^ 16)
    (placed last_place (record_bytes s.last) (put 0 any_place (flag_of s.any) (put 0 number_place s.number w)))))
