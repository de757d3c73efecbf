-- `update_by` meets its contract: the map as it was, number 4, or the draft of an update, finished.
use mathlib.Core.Path.{ap, ◌∙◌}
use native.Mathlib.Omega.{arith}
use Rattle.clock.specs.Dots.{dots_of, fitted, counter_in, add_dot}
use Rattle.clock.proofs.Packs.{dots-of, over-means, within-means, within-clock}
use Rattle.clock.proofs.Joins.{lawful-add}
use Rattle.map.proofs.Verdicts.{judged-within}
use Rattle.map.proofs.Removals.{update-closed}
use Rattle.drafting.proofs.Results.{answered, none-wait, updated-draft, updated-long, update-seen, map-short}
use Rattle.changing.proofs.update_by.Goals as goal

pub returns-then-d-get : goal.returns-then-d-get
returns-then-d-get f =
    let h = f.requires.0.0 in
    let u = f.args.u in
    let g = f.get.ensures ∙ ap (λ x. counter_in (dots_of x) u.dot.actor) h.clock in
    answered (update-seen _ u (omega (arith, g, f.if-d-get.true)))
    (rw (judged-within h.lies.within.limits, f.told.ensures) f.same.ensures)

pub returns-then-grown : goal.returns-then-grown
returns-then-grown f =
    let p = f.requires in
    let h = p.0.0 in
    let u = f.args.u in
    let g = f.get.ensures ∙ ap (λ x. counter_in (dots_of x) u.dot.actor) h.clock in
    let j = f.add-grown.ensures ∙ ap (λ x. fitted (add_dot (dots_of x) u.dot)) h.clock in
    updated-long h u p.1.0.0 (omega (arith, g, f.if-d-get.false)) (over-means _ j f.if-grown.true) f.told-then-grown.ensures

pub join_plan-plan-requires : goal.join_plan-plan-requires
join_plan-plan-requires f =
    let c = f in
    let p = c.requires in
    let h = p.0.0 in
    let u = c.args.u in
    let j = c.add-grown.ensures ∙ ap (λ x. fitted (add_dot (dots_of x) u.dot)) h.clock in
    let t = c.if-grown.false in (
      (_, c.queue_of-q.ensures),
      ((_, c.none-none.ensures _), rw (dots-of _ (within-clock _ j t)) (lawful-add h.lies.within.valid.clock u.dot)),
    )

pub draw_updated-sk-requires : goal.draw_updated-sk-requires
draw_updated-sk-requires f =
    let c = f.before in
    let p = c.requires in
    let h = p.0.0 in
    let u = c.args.u in
    let g = c.get.ensures
    ∙ ap (λ x. counter_in (dots_of x) u.dot.actor) h.clock in
    let j = c.add-grown.ensures ∙ ap (λ x. fitted (add_dot (dots_of x) u.dot)) h.clock in
    let t = c.if-grown.false in (
      (h.lies, c.queue_of-q.ensures),
      (
        p.1.0,
        (
          (omega (arith, g, c.if-d-get.false), within-means _ j t),
          (map-short _ p.0.1, p.1.1),
        ),
      ),
    )

pub finish-requires : goal.finish-requires
finish-requires f =
    let c = f.before.before.before in
    let p = c.requires in
    let h = p.0.0 in
    let u = c.args.u in
    let g = c.get.ensures
    ∙ ap (λ x. counter_in (dots_of x) u.dot.actor) h.clock in
    let j = c.add-grown.ensures ∙ ap (λ x. fitted (add_dot (dots_of x) u.dot)) h.clock in
    let t = c.if-grown.false in (
      _,
      (
        _,
        (
          _,
          updated-draft h u p.1.0.0 (omega (arith, g, c.if-d-get.false)) (within-means _ j t)
              (within-clock _ j t) f.draw_updated-sk.ensures (f.join_plan-plan.ensures _ _ c.queue_of-q.ensures
              (c.none-none.ensures _) h.lies.within.valid.waiting none-wait),
        ),
      ),
    )

pub returns : goal.returns
returns f =
    let c = f.before.before.before.before.before.before in
    let p = c.requires in
    let h = p.0.0 in
    let u = c.args.u in
    let g = c.get.ensures
    ∙ ap (λ x. counter_in (dots_of x) u.dot.actor) h.clock in
    let j = c.add-grown.ensures ∙ ap (λ x. fitted (add_dot (dots_of x) u.dot)) h.clock in
    let t = c.if-grown.false in
    answered (update-closed u h.lies.within.valid (omega (arith, g, c.if-d-get.false)))
    (f.finish.ensures _ _ _ (updated-draft h u p.1.0.0
    (omega (arith, g, c.if-d-get.false)) (within-means _ j t) (within-clock _ j t)
    f.draw_updated-sk.ensures (f.join_plan-plan.ensures _ _
    c.queue_of-q.ensures (c.none-none.ensures _) h.lies.within.valid.waiting none-wait)))
