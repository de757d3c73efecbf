-- `reset_by` meets its contract: the draft of a reset, finished.
use Rattle.clock.proofs.Packs.{cut_left}
use Rattle.drafting.proofs.Results.{answered, reset-laid, reset-draft, map-short}
use Rattle.changing.proofs.reset_by.Goals as goal

pub reset_plan-plan-requires : goal.reset_plan-plan-requires
reset_plan-plan-requires f = ((_, f.queue_of-q.ensures), f.requires.1)

pub draw_reset-sk-requires : goal.draw_reset-sk-requires
draw_reset-sk-requires f = let p = f.requires in
    (p.0.0.lies, (map-short _ p.0.1, p.1))

pub finish-requires : goal.finish-requires
finish-requires f =
    let c = f.before.before in
    let h = c.requires.0.0 in (
      _,
      (
        _,
        (
          _,
          reset-draft h _ (cut_left _ _ c.cut.ensures) (f.draw_reset-sk.ensures _)
              (c.reset_plan-plan.ensures _ _ c.queue_of-q.ensures h.lies.within.valid.waiting),
        ),
      ),
    )

pub returns : goal.returns
returns f =
    let c = f.before.before.before.before.before in
    let h = c.requires.0.0 in
    answered (reset-laid _ _) (f.finish.ensures _ _ _
    (reset-draft h _ (cut_left _ _ c.cut.ensures) (f.draw_reset-sk.ensures _)
    (c.reset_plan-plan.ensures _ _ c.queue_of-q.ensures h.lies.within.valid.waiting)))
