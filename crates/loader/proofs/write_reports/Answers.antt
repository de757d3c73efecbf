-- `write_reports` meets its contract: one report after the other.
use mathlib.Core.Path.{◌≡◌, ap, sym, ◌∙◌}
use Prim.Native.Nat.{◌+◌, ◌-◌}
use Rattle.maprecords.specs.Related.{read_map}
use Rattle.loader.specs.Reports.{report_at}
use Rattle.loader.specs.Calls.{bay_count}
use Rattle.loader.proofs.Reporting.{report-start, report-room, report-on}
use native.Mathlib.Omega.{arith}
use Rattle.loader.proofs.write_reports.Goals as goal

pub loop-bay-init : goal.loop-bay-init
loop-bay-init c = report-start

pub write_report-next-requires : goal.write_report-next-requires
write_report-next-requires c = omega (arith, c.requires.1, report-room c.loop-bay.invariant (omega (arith, c.requires.1)))

pub loop-bay-preserved : goal.loop-bay-preserved
loop-bay-preserved c =
    let b = c.loop-bay.bay in
    let e : b - 1 + 1 ≡ b = omega arith in
    let f : b + 1 - 1 ≡ b - 1 + 1 = omega arith in
    rw f
    (report-on c.loop-bay.invariant (omega (arith, c.requires.1))
    (c.report_at.ensures ∙ ap (report_at (read_map c.args.map.now).map) (sym e)) c.write_report-next.ensures)

pub shape_of-out : goal.shape_of-out
shape_of-out c = (report-room c.loop-bay.invariant (omega (arith, c.requires.1))).1

pub returns : goal.returns
returns c =
    let e : c.loop-bay.bay - 1 ≡ bay_count = omega arith in
    rw (← e) c.loop-bay.invariant.wrote
