-- What a scan does with one record more.
use Rattle.std.specs.Prelude.{ℕ, ◌+◌, Bool, true, false, cond, not, ◌&&◌, ◌||◌, ltb, eqb}
use Rattle.records.specs.declared.Record.{Record}
use Rattle.records.specs.Kinds.{record_ok, before, waiting_key_kind}
use Rattle.scan.specs.Limits.{within_limits}
use Rattle.scan.specs.declared.Scan.{Scan}

-- the waiting keys under an index, with a record of a kind
abbrev pub under_on : ℕ → ℕ → ℕ
under_on n kind = cond (eqb kind waiting_key_kind && ltb n 255) (n + 1) n

-- a count after one more record: of another group, of the same group and another thing, of the same thing; at 256, which is over every
-- limit, it stands still
abbrev pub tally_to : ℕ → Bool → Bool → ℕ
tally_to n false same = 1
tally_to n true false = cond (ltb n 256) (n + 1) n
tally_to n true true = n

-- the counts with one record more: the last one's, where they are of the same group
abbrev pub by_key : Scan → Record → Scan
by_key s r =
    let kind = s.any && eqb s.last.kind r.kind in
    let key = kind && eqb s.last.key r.key in
    let index = key && eqb s.last.index r.index in
    record {
      number = s.number;
      any = s.any;
      last = s.last;
      outer = tally_to s.outer kind key;
      middle = tally_to s.middle key index;
      inner = tally_to s.inner index false;
    }

-- the same for a waiting key, whose index has n
abbrev pub by_index : Scan → Record → ℕ → Scan
by_index s r n =
    record {
      number = s.number;
      any = s.any;
      last = s.last;
      outer = tally_to s.outer (s.any && eqb s.last.kind r.kind) (ltb 0 n);
      middle = n + 1;
      inner = 1;
    }

abbrev pub limits_judged : Scan → Record → Scan
limits_judged s r = record {
  number = cond (within_limits r.kind s.outer s.middle s.inner) s.number 2;
  any = true;
  last = r;
  outer = s.outer;
  middle = s.middle;
  inner = s.inner;
}

-- a record that follows the last, counted where nothing is wrong so far
abbrev pub counted_on : Scan → Record → ℕ → Scan
counted_on s r n =
    cond (eqb s.number 0)
    (limits_judged (cond (eqb r.kind waiting_key_kind) (by_index s r n) (by_key s r)) r)
    (record { number = s.number; any = true; last = r; outer = s.outer; middle = s.middle; inner = s.inner })

-- good by itself, and behind the last
abbrev pub behind_last : ℕ → ℕ → Scan → Record → Bool
behind_last low high s r = record_ok low high r && (not s.any || before s.last r)

-- a scan with one record more, for every scan; where the record is a waiting key, n stand under its index
unfoldable pub scan_on : ℕ → ℕ → Scan → Record → ℕ → Scan
scan_on low high s r n =
    cond (eqb s.number 1) s
    (cond (behind_last low high s r) (counted_on s r n)
    (record { number = 1; any = s.any; last = s.last; outer = s.outer; middle = s.middle; inner = s.inner }))
