-- Records of 16 bytes: byte 0 kind, 1 index, 2-3 actor, 4-7 key, 8-15 number.
use Rattle.std.specs.Prelude.{ℕ, zero, suc, ◌+◌, ◌/◌, List, [], ◌∷◌, ◌++◌, length}
use Rattle.records.specs.Bytes.{num_at, num_bytes}
use Rattle.records.specs.declared.Record.{Record}

-- the record that stands at byte `at`
unfoldable pub record_from : List ℕ → ℕ → Record
record_from s at = record {
  kind = num_at 0 at s;
  index = num_at 0 (at + 1) s;
  actor = num_at 1 (at + 2) s;
  key = num_at 2 (at + 4) s;
  number = num_at 3 (at + 8) s;
}

-- n records from byte `at` on
unfoldable pub records_from : List ℕ → ℕ → ℕ → List Record
records_from s at zero = []
records_from s at (suc n) = record_from s at ∷ records_from s (at + 16) n

-- the whole records of s
abbrev pub records_of : List ℕ → List Record
records_of s = records_from s 0 (length s / 16)

-- the 16 bytes of a record
abbrev pub record_bytes : Record → List ℕ
record_bytes r =
    num_bytes 0 r.kind ++ (num_bytes 0 r.index ++ (num_bytes 1 r.actor ++ (num_bytes 2 r.key ++ num_bytes 3 r.number)))

-- the bytes of records
unfoldable pub bytes_of : List Record → List ℕ
bytes_of [] = []
bytes_of (r ∷ l) = record_bytes r ++ bytes_of l
