-- `source_of` meets its contract.
use mathlib.Core.Path.{refl}
use Rattle.entrywalk.proofs.Lying.{run-here, cut-of-run}
use Rattle.cutting.proofs.source_of.Goals as goal

pub returns : goal.returns
returns c =
    let p = c.requires in
    ((refl, (refl, (refl, refl))), cut-of-run _ _ (run-here _ _ _ p.0.1.0 p.0.1.1.0 p.1.0) c.cut_marks-marks.ensures)
