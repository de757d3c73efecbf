-- The report of a bay, and the bytes of reports.
use Rattle.std.specs.Prelude.{Bool, false, cond, List, [], ◌++◌, ℕ, zero, suc, ◌+◌}
use Rattle.entries.specs.Model.{values_in}
use Rattle.entries.specs.Entries.{entry_at}
use Rattle.map.specs.declared.Map.{Map}
use Rattle.map.specs.Model.{entries_in}
use Rattle.records.specs.Bytes.{num_bytes, flag_of}
use Rattle.loader.specs.declared.Report.{Report}
use Rattle.loader.specs.Choice.{report_of}

-- the report of a bay: its entry's register; a missing entry is one with no value
unfoldable pub report_at : Map → ℕ → Report
report_at m bay = report_of (values_in (entry_at bay (entries_in m)))

-- "eleven bytes each: remaining count, differ flag, found flag, value (little-endian)"
abbrev pub report_bytes : Report → List ℕ
report_bytes r = num_bytes 0 r.count ++ (num_bytes 0 (flag_of r.differ) ++ (num_bytes 0 (flag_of r.found) ++ num_bytes 3 r.value))

-- "reports none, all bytes zero"
abbrev pub no_report : Report
no_report = record { count = 0; differ = false; found = false; value = 0 }

-- the reports of n bays in bay order, behind the bays up to `after`
unfoldable pub reports_after : Map → ℕ → ℕ → List ℕ
reports_after m after zero = []
reports_after m after (suc n) = report_bytes (report_at m (after + 1)) ++ reports_after m (after + 1) n
