-- `draw_both` meets its contract: ours that stand, and theirs behind them.
use mathlib.Core.Path.{refl, sym, subst}
use mathlib.Core.List.{[]}
use native.Mathlib.Omega.{arith}
use borrow.Author.Rules.{rules}
use Rattle.clock.specs.Dots.{dots_of}
use Rattle.entries.specs.Model.{values_in}
use Rattle.queued.specs.Queue.{Marked}
use Rattle.sketch.specs.Drawn.{Draws}
use Rattle.entrywalk.proofs.Lying.{runs_of}
use Rattle.merging.proofs.Standing.{both_left}
use Rattle.merging.proofs.drawing.draw_both.Goals as goal

pub overflow_sub-xv : goal.overflow_sub-xv
overflow_sub-xv c = let o = c.requires.1.0.0.1.values.order in
    search rules

pub overflow_sub-yv : goal.overflow_sub-yv
overflow_sub-yv c = let o = c.requires.1.0.1.1.values.order in
    search rules

pub stands-st-requires : goal.stands-st-requires
stands-st-requires c =
    let p = c.requires.1.0 in
    ((_, runs_of p.0.1), (_, runs_of p.1.1))

pub draw_values-requires : goal.draw_values-requires
draw_values-requires c =
    let p = c.requires in
    (omega (arith, c.draw_values-some.ensures.0, p.0), (p.1.0.1, ((p.1.1.0.0, p.1.1.0.1.1), (p.1.1.1.1, p.1.1.1.0))))

pub returns : goal.returns
returns c =
    let o = c.before.before.before.before in
    let z = o.before.before.before.before.before.before.before.before.before.before.before.before in
    let a = z.args in
    λ key d e f u w g h k same q r m n.
    let one = c.draw_values-some.ensures.1 a.s.now a.t.now key d [] e u w refl g h q r m n in
    let two = c.draw_values.ensures.1 a.s.now
    a.t.now key d _ f u w refl one k q r (subst (λ i. Marked u i a.theirs) (sym same) m) (subst (λ i. Marked w i a.ours) (sym same) n) in
    subst (λ l. Draws a.s.now a.t.now key d l c.draw_values.result)
    (both_left w u (dots_of a.c.gone) e f o.stands-st.result.ours o.stands-st.result.theirs same
    (o.stands-st.ensures (values_in e) (values_in f) (runs_of h) (runs_of k))) two
