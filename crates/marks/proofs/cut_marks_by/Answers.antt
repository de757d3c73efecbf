-- `cut_marks_by` meets its contract: the dots that are seen are those of the clock's run.
use Rattle.std.proofs.Common.{rules, of_calls, ◌≡◌, ◌*◌, sym, ◌∙◌}
use Rattle.records.specs.Records.{record_from}
use Rattle.clockimage.specs.Image.{dot_of}
use Rattle.runs.specs.Run.{run_dots}
use Rattle.marks.proofs.Dots.{run_at, length_run}
use Rattle.marks.proofs.cut_marks_by.Goals as goal

pub returns : goal.returns
returns c =
    let s = c.args.by.now in
    c.cut.ensures (run_dots s) c.requires.1.1 (length_run s) (λ j d h p.
    let e : d ≡ dot_of (record_from s (j * 16)) = search (rules, of_calls) in
    e ∙ sym (run_at s j h))
