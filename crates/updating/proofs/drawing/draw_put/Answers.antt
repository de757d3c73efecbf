-- `draw_put` meets its contract: a put with no clock does nothing, one that yields is not drawn, any other stands last.
use mathlib.Core.Path.{◌≡◌, ap, sym, subst, ◌∙◌}
use mathlib.Core.Bool.{cond}
use mathlib.Core.List.{[]}
use native.Mathlib.Omega.{arith}
use Rattle.listlaws.specs.Sift.{sift}
use Rattle.limits.specs.Limits.{value_limit}
use Rattle.register.specs.Values.{alive}
use Rattle.entries.specs.Model.{values_in}
use Rattle.marks.proofs.Picks.{picked_all}
use Rattle.sketch.specs.Drawn.{value_named, image_named, value_from, Draws}
use Rattle.leaving.specs.Left.{value_left}
use Rattle.entrywalk.proofs.Lying.{runs_of}
use Rattle.updating.proofs.Lying.{put-empty, put_full}
use Rattle.updating.proofs.Values.{put-nothing, put-yields, put-behind}
use Rattle.updating.proofs.drawing.draw_put.Goals as goal

pub returns-then-m-le2 : goal.returns-then-m-le2
returns-then-m-le2 c =
    let a = c.args in
    λ u key d e w h g l q m.
    subst (λ x. Draws a.s.now a.op.now key d (sift alive (value_left w [] e.key []) x) c.draw_standing.result)
    (picked_all (values_in e) value_limit l.fit.few ∙ sym (put-nothing (values_in e) u.put (put-empty h (omega (arith, c.if-m-le2.true)))))
    (c.draw_standing.ensures.1 a.op.now key d e w g l q m)

pub put_stands-st-requires : goal.put_stands-st-requires
put_stands-st-requires c =
    let p = c.requires in
    let h = p.1.1 in
    ((_, runs_of p.0.1.0.1), rw h.dots h.lawful)

pub returns-then-st : goal.returns-then-st
returns-then-st c =
    let st = c.before.before.before in
    let i = st.before.before.before.before.before in
    let a = i.args in
    λ u key d e w h g l q m.
    let o = st.put_stands-st.ensures (values_in e) u.put (runs_of l) h.dots in
    subst (λ x. Draws a.s.now a.op.now key d (sift alive (value_left w [] e.key []) x) c.draw_standing-drawn.result)
    (o.0 ∙ sym (put-yields (values_in e) u.put (put_full h (omega (arith, i.if-m-le2.false))) (sym o.1 ∙ c.if-st.true)))
    (c.draw_standing-drawn.ensures.1 a.op.now key d e w g l q m)

pub put_source-put-requires : goal.put_source-put-requires
put_source-put-requires c = let p = c.requires in
    (p.1, p.0.1.1.1)

pub add-requires : goal.add-requires
add-requires c = (omega (arith, c.draw_standing-drawn.ensures.0), c.put_source-put.ensures.0.1)

pub returns : goal.returns
returns c =
    let k = c.before.before.before in
    let st = k.before.before in
    let i = st.before.before.before.before.before in
    let a = i.args in
    λ u key d e w h g l q m.
    let o = st.put_stands-st.ensures (values_in e) u.put (runs_of l) h.dots in
    let r = c.put_source-put.result in
    let found = c.put_source-put.ensures.1 u w e.key h q m in
    let image : image_named a.s.now a.op.now r ≡ a.op.now = ap (λ z. cond z a.op.now a.s.now)
    c.put_source-put.ensures.0.0 in
    let value : value_from a.s.now a.op.now r ≡ value_left w [] e.key [] u.put = ap (λ z. value_named z r) image ∙ found.1 in
    subst (λ x. Draws a.s.now a.op.now key d x c.add.result)
    (put-behind (values_in e) u.put (value_left w [] e.key []) (put_full h (omega (arith, i.if-m-le2.false)))
    (sym o.1 ∙ c.if-st.false) o.0 value)
    (c.add.ensures.1 a.s.now a.op.now key d _ (k.draw_standing-drawn.ensures.1 a.op.now key d e w g l q m) (rw image found.0))
