-- `marks_left` meets its contract: nothing is cut, or three cuts, one after the other.
use mathlib.Core.Path.{ap, sym, ◌∙◌}
use native.Mathlib.Omega.{arith}
use Rattle.limits.specs.Limits.{dot_limit}
use Rattle.clock.specs.Dots.{dots_of, cut_dots}
use Rattle.runs.specs.Run.{run_dots}
use Rattle.queued.specs.Queue.{cuts_for}
use Rattle.marks.proofs.Picks.{picked_all}
use Rattle.marks.proofs.Dots.{length_run}
use Rattle.leaving.proofs.Whole.{whole-left}
use Rattle.leaving.proofs.marks_left.Goals as goal

pub returns-then-whole : goal.returns-then-whole
returns-then-whole c =
    let z = c.before.before.before.before in
    let p = z.requires.0 in
    let u = p.1.0 c.if-whole.true in
    λ v w key q r m n.
    picked_all (run_dots z.args.run.now) dot_limit (omega (arith, length_run z.args.run.now, p.0))
    ∙ sym (whole-left u v w key p.1.1.0 q r m n)

pub returns : goal.returns
returns c =
    let z = c.before.before.before.before.before.before.before in
    let p = z.requires.0.0 in
    λ v w key q r m n.
    c.cut_listed_marks.ensures w key r n
    ∙ ap (cuts_for w key) (c.cut_listed_marks-left.ensures v key q m
    ∙ ap (cuts_for v key) (c.cut_marks-cut.ensures ∙ ap (cut_dots (dots_of z.args.gone))
    (picked_all (run_dots z.args.run.now) dot_limit (omega (arith, length_run z.args.run.now, p)))))
