-- `held_queue` meets its contract: the records behind the head, or none.
use mathlib.Core.Path.{refl, sym, ◌∙◌}
use native.Mathlib.Omega.{arith}
use Rattle.drafting.proofs.Results.{one-queued}
use Rattle.drafting.proofs.held.held_queue.Goals as goal

pub returns-then-waiting : goal.returns-then-waiting
returns-then-waiting f = λ r seen h e.
    let a = f.args in
    rw (sym e ∙ f.if-waiting.true) (one-queued a.op.now r _ _ h.within h.records h.count refl refl)

pub returns : goal.returns
returns f = λ r seen h e. rw (sym e ∙ f.if-waiting.false) (f.none.ensures _)

pub overflow_add-starts : goal.overflow_add-starts
overflow_add-starts c = let h = c.requires.1 in omega (arith, h.count, h.within.dots)
