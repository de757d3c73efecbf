-- `merge_with` meets its contract: number 4, or the draft of a merge, finished.
use mathlib.Core.Path.{ap₂, ◌∙◌}
use Rattle.clock.specs.Dots.{dots_of, fitted, join_dots}
use Rattle.clock.proofs.Packs.{dots-of, over-means, within-means, within-clock}
use Rattle.clock.proofs.Joins.{lawful-join}
use Rattle.drafting.proofs.Results.{answered, merged-laid, merged-draft, merged-long, map-short}
use Rattle.changing.proofs.merge_with.Goals as goal

pub returns-then-joined : goal.returns-then-joined
returns-then-joined f =
    let h = f.requires.0.0 in
    let k = f.requires.0.1 in
    let j = f.join-joined.ensures ∙ ap₂ (λ x y. fitted (join_dots (dots_of x) (dots_of y))) h.clock k.clock in
    merged-long h k (over-means _ j f.if-joined.true) f.told.ensures

pub join_plan-plan-requires : goal.join_plan-plan-requires
join_plan-plan-requires f =
    let c = f in
    let p = c.requires in
    let h = p.0.0 in
    let k = p.0.1 in
    let j = c.join-joined.ensures
    ∙ ap₂ (λ x y. fitted (join_dots (dots_of x) (dots_of y))) h.clock k.clock in
    let t = c.if-joined.false in (
      (_, c.queue_of-q.ensures),
      (
        (_, c.queue_of-p.ensures),
        rw (dots-of _ (within-clock _ j t))
            (lawful-join h.lies.within.valid.clock k.lies.within.valid.clock),
      ),
    )

pub draw_merged-sk-requires : goal.draw_merged-sk-requires
draw_merged-sk-requires f =
    let c = f.before in
    let p = c.requires in
    let h = p.0.0 in
    let k = p.0.1 in
    let j = c.join-joined.ensures
    ∙ ap₂ (λ x y. fitted (join_dots (dots_of x) (dots_of y))) h.clock k.clock in
    let t = c.if-joined.false in
    ((h, k), ((c.queue_of-q.ensures, c.queue_of-p.ensures), ((map-short _ p.1.0, map-short _ p.1.1), within-means _ j t)))

pub finish-requires : goal.finish-requires
finish-requires f =
    let c = f.before.before.before in
    let p = c.requires in
    let h = p.0.0 in
    let k = p.0.1 in
    let j = c.join-joined.ensures
    ∙ ap₂ (λ x y. fitted (join_dots (dots_of x) (dots_of y))) h.clock k.clock in
    let t = c.if-joined.false in (
      _,
      (
        _,
        (
          _,
          merged-draft h k (within-means _ j t) (within-clock _ j t) f.draw_merged-sk.ensures
              (f.join_plan-plan.ensures _ _ c.queue_of-q.ensures c.queue_of-p.ensures h.lies.within.valid.waiting
              k.lies.within.valid.waiting),
        ),
      ),
    )

pub returns : goal.returns
returns f =
    let c = f.before.before.before.before.before.before in
    let p = c.requires in
    let h = p.0.0 in
    let k = p.0.1 in
    let j = c.join-joined.ensures
    ∙ ap₂ (λ x y. fitted (join_dots (dots_of x) (dots_of y))) h.clock k.clock in
    let t = c.if-joined.false in
    answered (merged-laid h k) (f.finish.ensures _ _ _
    (merged-draft h k (within-means _ j t) (within-clock _ j t) f.draw_merged-sk.ensures
    (f.join_plan-plan.ensures _ _ c.queue_of-q.ensures c.queue_of-p.ensures
    h.lies.within.valid.waiting k.lies.within.valid.waiting)))
