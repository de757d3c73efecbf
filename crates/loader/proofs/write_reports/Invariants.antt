-- `write_reports` meets its contract: one report after the other.
use Prim.Native.Nat.{◌-◌}
use Rattle.maprecords.specs.Related.{read_map}
use Rattle.loader.proofs.Reporting.{Reporting}
use Rattle.loader.proofs.write_reports.Given as goal

abbrev pub invariant-loop-bay : goal.invariant-loop-bay
invariant-loop-bay v = Reporting (read_map v.map).map v.initial.out (v.bay - 1) v.out v.next
