-- `removal_deleted` meets its contract: the draft of a removal, counted.
use mathlib.Core.Path.{◌≡◌, refl, ap, sym, ◌∙◌}
use mathlib.Core.List.{[]}
use native.Mathlib.Omega.{arith}
use Rattle.clock.specs.declared.Clock.{Clock}
use Rattle.clock.specs.Dots.{dots_of}
use Rattle.clock.proofs.Packs.{dots-of}
use Rattle.clock.proofs.Joins.{lawful-nil}
use Rattle.removals.specs.Waits.{waits}
use Rattle.drafting.specs.Drafted.{RemovalLies}
use Rattle.drafting.proofs.Results.{held-valid, removed-laid, removed-draft, map-short}
use Rattle.deleted.proofs.Counts.{removed-most, removed-rest, counted-as}
use Rattle.deleted.proofs.removal_deleted.Goals.{After-removal_waits-waiting}
use Rattle.deleted.proofs.removal_deleted.Goals as goal

pub removal_waits-waiting-requires : goal.removal_waits-waiting-requires
removal_waits-waiting-requires f =
    let p = f.requires in
    (p.0.0.lies, (_, record { within = p.1.0; records = p.1.1; count = f.size-dots.ensures.0 }))

-- the removal where it lies, and whether it waits
module _ (f : After-removal_waits-waiting) where
  lies : let a = f.args in RemovalLies a.op.now f.size-dots.result a.r
  lies = let p = f.requires.1 in
      record { within = p.0; records = p.1; count = f.size-dots.ensures.0 }

  told : let a = f.args in f.removal_waits-waiting.result ≡ waits (dots_of a.a.clock) a.r
  told =
      let p = f in
      f.removal_waits-waiting.ensures p.args.r lies ∙ ap (λ (c : Clock). waits (dots_of c) p.args.r) (sym p.requires.0.0.clock)

pub held_queue-p-requires : goal.held_queue-p-requires
held_queue-p-requires f = (_, lies (goal.at.held_queue-p-requires f).After-removal_waits-waiting)

pub held_keys-theirs-requires : goal.held_keys-theirs-requires
held_keys-theirs-requires f = (_, lies (goal.at.held_keys-theirs-requires f).After-removal_waits-waiting)

pub join_plan-plan-requires : goal.join_plan-plan-requires
join_plan-plan-requires f =
    let w = (goal.at.join_plan-plan-requires f).After-removal_waits-waiting in (
      (_, f.queue_of-q.ensures),
      (
        (_, f.held_queue-p.ensures _ _ (lies w) (told w)),
        rw (dots-of [] f.new-none.ensures) lawful-nil,
      ),
    )

pub draw_removed-sk-requires : goal.draw_removed-sk-requires
draw_removed-sk-requires f = let p = f.requires in
    (p.0.0.lies, (map-short _ p.0.1, p.1.0.valid.clock))

pub overflow_sub-had : goal.overflow_sub-had
overflow_sub-had f = omega (
  arith,
  f.requires.0.0.lies.places.second,
)

pub fewer-requires : goal.fewer-requires
fewer-requires f =
    let c = f.before.before.before in
    let p = c.requires in
    let w = (goal.at.fewer-requires f).After-removal_waits-waiting in
    let h = p.0.0 in
    let j = p.1.0 in (
      _,
      (
        _,
        (
          _,
          (
            _,
            (
              removed-draft h _ j c.new-none.ensures (f.draw_removed-sk.ensures _)
                  (c.join_plan-plan.ensures _ _ c.queue_of-q.ensures
                  (c.held_queue-p.ensures _ _ (lies w) (told w))
                  h.lies.within.valid.waiting (held-valid j.valid _)) (c.held_keys-theirs.ensures _ _ (lies w) (told w)),
              removed-most h.lies _ refl,
            ),
          ),
        ),
      ),
    )

pub returns : goal.returns
returns f n e =
    let c = f.before.before.before.before in
    let p = c.requires in
    let w = (goal.at.returns f).After-removal_waits-waiting in
    let h = p.0.0 in
    let j = p.1.0 in
    counted-as (removed-laid h.lies.within.valid _)
    (f.fewer.ensures _ _ _ _ n (removed-draft h _ j c.new-none.ensures (f.draw_removed-sk.ensures _)
    (c.join_plan-plan.ensures _ _ c.queue_of-q.ensures
    (c.held_queue-p.ensures _ _ (lies w) (told w))
    h.lies.within.valid.waiting (held-valid j.valid _)) (c.held_keys-theirs.ensures _ _ (lies w) (told w)))
    (removed-rest h.lies _ n refl e))
