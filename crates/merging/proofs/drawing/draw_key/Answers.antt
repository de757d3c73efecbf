-- `draw_key` meets its contract: the values are drawn where something is left of the clock.
use mathlib.Core.Path.{ap, sym, ◌∙◌}
use Rattle.listlaws.proofs.Orders.{apart}
use Rattle.clock.specs.Dots.{is_empty}
use Rattle.clock.proofs.Packs.{dots-of}
use Rattle.queued.specs.Queue.{cuts_for}
use Rattle.merging.proofs.drawing.draw_key.Goals as goal

pub returns-then-is_empty : goal.returns-then-is_empty
returns-then-is_empty c =
    let n = c.before.before in
    let a = n.args in
    λ d e f u w p h k same q r i j.
    let cut = cuts_for w e.key (cuts_for u e.key d) in
    let left = n.clock_left-left.ensures u w e.key d q r i j p in
    let bare = n.new-bare.ensures.1 a.s.now a.t.now cut left in
    (bare.clock, λ no. apart (sym c.if-is_empty.true ∙ c.is_empty.ensures ∙ ap is_empty (dots-of cut left) ∙ no))

pub returns : goal.returns
returns c =
    let n = c.before.before.before in
    let a = n.args in
    λ d e f u w p h k same q r i j.
    let cut = cuts_for w e.key (cuts_for u e.key d) in
    let left = n.clock_left-left.ensures u w e.key d q r i j p in
    let bare = n.new-bare.ensures.1 a.s.now a.t.now cut left in
    let drawn = c.draw_both.ensures a.c.x.key cut e f u w bare h k same q r i j in
    (drawn.clock, λ no. drawn)
