-- `remove_by` meets its contract: the draft of a removal, finished.
use mathlib.Core.Path.{◌≡◌, ap, sym, ◌∙◌}
use mathlib.Core.List.{[]}
use Rattle.clock.specs.declared.Clock.{Clock}
use Rattle.clock.specs.Dots.{dots_of}
use Rattle.clock.proofs.Packs.{dots-of}
use Rattle.clock.proofs.Joins.{lawful-nil}
use Rattle.removals.specs.Waits.{waits}
use Rattle.drafting.specs.Drafted.{RemovalLies}
use Rattle.drafting.proofs.Results.{answered, held-valid, removed-laid, removed-draft, map-short}
use Rattle.changing.proofs.remove_by.Goals.{After-removal_waits-waiting}
use Rattle.changing.proofs.remove_by.Goals as goal

pub removal_waits-waiting-requires : goal.removal_waits-waiting-requires
removal_waits-waiting-requires f =
    let p = f.requires in
    (p.0.0.lies, (_, record { within = p.1.0; records = p.1.1; count = f.size-dots.ensures.0 }))

-- the removal where it lies, and whether it waits
module _ (f : After-removal_waits-waiting) where
  lies : let a = f.args in RemovalLies a.op.now f.size-dots.result a.r
  lies = let p = f.requires.1 in
      record { within = p.0; records = p.1; count = f.size-dots.ensures.0 }

  told : let a = f.args in
      f.removal_waits-waiting.result ≡ waits (dots_of a.a.clock) a.r
  told =
      let p = f in
      f.removal_waits-waiting.ensures p.args.r lies ∙ ap (λ (c : Clock). waits (dots_of c) p.args.r) (sym p.requires.0.0.clock)

pub held_queue-p-requires : goal.held_queue-p-requires
held_queue-p-requires f = (_, lies (goal.at.held_queue-p-requires f).After-removal_waits-waiting)

pub held_keys-theirs-requires : goal.held_keys-theirs-requires
held_keys-theirs-requires f = (_, lies (goal.at.held_keys-theirs-requires f).After-removal_waits-waiting)

pub join_plan-plan-requires : goal.join_plan-plan-requires
join_plan-plan-requires f =
    let w = (goal.at.join_plan-plan-requires f).After-removal_waits-waiting in (
      (_, f.queue_of-q.ensures),
      (
        (_, f.held_queue-p.ensures _ _ (lies w) (told w)),
        rw (dots-of [] f.new-none.ensures) lawful-nil,
      ),
    )

pub draw_removed-sk-requires : goal.draw_removed-sk-requires
draw_removed-sk-requires f = let p = f.requires in
    (p.0.0.lies, (map-short _ p.0.1, p.1.0.valid.clock))

pub finish-requires : goal.finish-requires
finish-requires f =
    let c = f.before.before in
    let p = c.requires in
    let w = (goal.at.finish-requires f).After-removal_waits-waiting in
    let h = p.0.0 in
    let j = p.1.0 in
    let k = c.held_queue-p.ensures _ _ (lies w) (told w) in (
      _,
      (
        _,
        (
          _,
          removed-draft h _ j c.new-none.ensures (f.draw_removed-sk.ensures _)
              (c.join_plan-plan.ensures _ _ c.queue_of-q.ensures k h.lies.within.valid.waiting
              (held-valid j.valid _)) (c.held_keys-theirs.ensures _ _ (lies w) (told w)),
        ),
      ),
    )

pub returns : goal.returns
returns f =
    let c = f.before.before.before.before.before in
    let p = c.requires in
    let w = (goal.at.returns f).After-removal_waits-waiting in
    let h = p.0.0 in
    let j = p.1.0 in
    let k = c.held_queue-p.ensures _ _ (lies w) (told w) in
    answered (removed-laid h.lies.within.valid _) (f.finish.ensures _ _ _
    (removed-draft h _ j c.new-none.ensures (f.draw_removed-sk.ensures _)
    (c.join_plan-plan.ensures _ _ c.queue_of-q.ensures k h.lies.within.valid.waiting
    (held-valid j.valid _)) (c.held_keys-theirs.ensures _ _ (lies w) (told w))))
