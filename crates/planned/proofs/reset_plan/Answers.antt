-- `reset_plan` meets its contract: what is left of the removals in order, and each one's place.
use Rattle.clock.specs.Dots.{dots_of}
use Rattle.planned.proofs.Results.{reset-plans}
use Rattle.planned.proofs.reset_plan.Goals as goal

pub seats-ours-requires : goal.seats-ours-requires
seats-ours-requires c = let p = c.requires in (p.0, ((_, c.cut_all-all.ensures p.0.0 p.0.1), p.1))

pub returns : goal.returns
returns c =
    let a = c.args in
    λ t w q v. let g = c.cut_all-all.ensures w q in
    reset-plans (dots_of a.by) t v q.few c.seats-ours.result g (c.seats-ours.ensures w _ q g)
