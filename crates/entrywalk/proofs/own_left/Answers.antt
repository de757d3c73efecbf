-- `own_left` meets its contract: the dots that are left are picked.
use mathlib.Core.Path.{ap, ◌∙◌}
use Rattle.clock.specs.Dots.{clock_of}
use Rattle.entrywalk.proofs.Lying.{own-says, cut-of-run}
use Rattle.entrywalk.proofs.own_left.Goals as goal

pub cut_marks-left-requires : goal.cut_marks-left-requires
cut_marks-left-requires c =
    let p = c.requires in
    let h = own-says p.0.1 in
    (h.short, (h.lawful, p.1))

pub pick_clock-requires : goal.pick_clock-requires
pick_clock-requires c = (own-says c.requires.0.1).short

pub returns : goal.returns
returns c = λ x h. c.pick_clock.ensures ∙ ap clock_of (cut-of-run _ _ (own-says h) c.cut_marks-left.ensures)
