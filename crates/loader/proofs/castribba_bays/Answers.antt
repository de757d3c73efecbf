-- `castribba_bays` meets its contract: each way out is a law of `Answers`.
use mathlib.Core.Path.{refl, sym, ◌∙◌}
use Rattle.maprecords.specs.Related.{read_map}
use Rattle.answers.proofs.Answers.{number-first, number_short, number-done, refuses, writes}
use Rattle.loader.specs.Calls.{bay_count}
use Rattle.loader.proofs.Reporting.{length-reports}
use native.Mathlib.Omega.{arith}
use Rattle.loader.proofs.castribba_bays.Goals as goal

pub returns-then-l-ne0 : goal.returns-then-l-ne0
returns-then-l-ne0 c =
    let e = c.lay_out-l.ensures.0 in
    rw c.word.ensures (refuses _ _ (number-first _ _ e c.if-l-ne0.true) c.if-l-ne0.true)

pub returns-then-out-lt-REPORTS : goal.returns-then-out-lt-REPORTS
returns-then-out-lt-REPORTS c =
    let s = c.before.before in
    let long = length-reports (read_map s.args.map.now).map 0 bay_count in
    let first = sym s.lay_out-l.ensures.0 ∙ s.if-l-ne0.false in
    rw c.word-then-out-lt-REPORTS.ensures (refuses _ _ (number_short _ _ first refl refl (omega arith)) (omega arith))

pub write_reports-requires : goal.write_reports-requires
write_reports-requires c = ((c.lay_out-l.ensures.1 c.if-l-ne0.false).lies, omega arith)

pub returns : goal.returns
returns c =
    let w = c.before.before in
    let s = w.before.before.before in
    let m = s.lay_out-l.ensures in
    let long = length-reports (read_map s.args.map.now).map 0 bay_count in
    let first = sym m.0 ∙ s.if-l-ne0.false in
    writes _ _ (number-done _ _ first refl refl (omega arith)) w.write_reports.ensures
