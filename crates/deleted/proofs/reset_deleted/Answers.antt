-- `reset_deleted` meets its contract: the draft of a reset, counted.
use mathlib.Core.Path.{refl}
use native.Mathlib.Omega.{arith}
use Rattle.clock.proofs.Packs.{cut_left}
use Rattle.drafting.proofs.Results.{reset-laid, reset-draft, map-short}
use Rattle.deleted.proofs.Counts.{reset-most, reset-rest, counted-as}
use Rattle.deleted.proofs.reset_deleted.Goals as goal

pub reset_plan-plan-requires : goal.reset_plan-plan-requires
reset_plan-plan-requires f = ((_, f.queue_of-q.ensures), f.requires.1)

pub draw_reset-sk-requires : goal.draw_reset-sk-requires
draw_reset-sk-requires f = let p = f.requires in (p.0.0.lies, (map-short _ p.0.1, p.1))

pub overflow_sub-had : goal.overflow_sub-had
overflow_sub-had f = omega (arith, f.requires.0.0.lies.places.second)

pub fewer-requires : goal.fewer-requires
fewer-requires f =
    let c = f.before.before.before in
    let h = c.requires.0.0 in (
      _,
      (
        _,
        (
          _,
          (
            _,
            (
              reset-draft h _ (cut_left _ _ c.cut.ensures) (f.draw_reset-sk.ensures _)
                  (c.reset_plan-plan.ensures _ _ c.queue_of-q.ensures h.lies.within.valid.waiting),
              reset-most h.lies _ refl,
            ),
          ),
        ),
      ),
    )

pub returns : goal.returns
returns f n e =
    let c = f.before.before.before.before in
    let h = c.requires.0.0 in
    counted-as (reset-laid _ _) (f.fewer.ensures _ _ _ _ n
    (reset-draft h _ (cut_left _ _ c.cut.ensures) (f.draw_reset-sk.ensures _)
    (c.reset_plan-plan.ensures _ _ c.queue_of-q.ensures h.lies.within.valid.waiting)) (reset-rest h.lies _ n refl e))
