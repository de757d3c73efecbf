-- `draw_values` meets its contract: a value a turn.
use mathlib.Core.Path.{◌≡◌, refl, ap, ◌∙◌}
use mathlib.Core.Bool.{cond}
use mathlib.Core.List.{[], ◌∷◌}
use Prim.Native.Nat.{◌<◌}
use lib.ListN.{length, length-set}
use native.Mathlib.Omega.{arith}
use Rattle.listlaws.specs.Sift.{sift, those}
use Rattle.listlaws.proofs.Pads.{unmapped}
use Rattle.register.specs.Values.{no_value, alive}
use Rattle.entries.specs.Model.{values_in}
use Rattle.marks.proofs.Picks.{picked-yes, picked-no, picked-end}
use Rattle.sketch.specs.declared.Sketched.{Sketched}
use Rattle.sketch.specs.Drawn.{value_named, image_named, value_from, Draws}
use Rattle.sketch.proofs.Adding.{add_none, add-one, add-over}
use Rattle.entrywalk.proofs.Lying.{many-values}
use Rattle.leaving.proofs.Growing.{sift-first, grown-start, grown-on, grown-same, grown-end}
use borrow.Author.Rules.{rules}
use Rattle.leaving.proofs.draw_values.Goals.{then-stand-k+then-some_marks+then-m-lt-VALUES, then-stand-k+then-some_marks+else-m-lt-VALUES}
use Rattle.leaving.proofs.draw_values.Goals.{then-stand-k+else-some_marks, else-stand-k}
use Rattle.leaving.proofs.draw_values.Goals as goal

pub stay_whole-whole-requires : goal.stay_whole-whole-requires
stay_whole-whole-requires c =
    let p = c.requires.1.1.1 in
    (omega (arith, p.0.1.count, p.0.1.few), omega (arith, p.1.1.count, p.1.1.few))

pub overflow_sub-n : goal.overflow_sub-n
overflow_sub-n c = let o = c.requires.1.0.1.values.order in search rules

pub loop-k-init : goal.loop-k-init
loop-k-init c =
    let p = c.requires in
    let h = p.1.0.1 in
    let f = h.fit.few in
    let good = c.well_formed in (
      (omega (arith, many-values h), (refl, (p.0, (omega arith, (search (rules, good), search (rules, unmapped, good)))))),
      λ a b key d l e u w q g k y z m n. grown-start (Draws a b key d) l _ g,
    )

pub source_of-one-requires : goal.source_of-one-requires
source_of-one-requires c =
    let p = c.requires in
    let h = p.1.0.1 in
    let i = c.loop-k.invariant.0 in
    ((p.1.0.0, h, omega (arith, many-values h, i.1.0)), ((c.stay_whole-whole.ensures, p.1.1.0), p.1.1.1))

pub overflow_sub-many : goal.overflow_sub-many
overflow_sub-many c = let o = c.source_of-one.ensures.0.1 in search rules

pub some_marks-requires : goal.some_marks-requires
some_marks-requires c = let o = c.source_of-one.ensures.0.1 in omega (arith, o.0, o.1)

pub bounds-out-m : goal.bounds-out-m
bounds-out-m c =
    let i = c.loop-k.invariant.0 in
    let k = c.if-m-lt-VALUES.true in
    omega (arith, i.1.1.1.1.1)

pub loop-k-preserved : goal.loop-k-preserved
loop-k-preserved c =
    let i = c.loop-k.invariant.0 in
    let long = i.1.1.1.1 in
    elim c.if-stand-k.branch [
      | then-stand-k+then-some_marks+then-m-lt-VALUES w ↦
          let n = ap (λ (k : Sketched). k.len) w.out-is in
          let o = w.source_of-one.ensures in
          let r = w.source_of-one.result in (
            (i.0, (i.1.0, (i.1.1.0, (omega (arith, i), (long.0, rw w.out-is (length-set c.loop-k.out.sources c.loop-k.out.len r ∙ long.1)))))),
            λ a b key d l e u v q g h y z m n.
                let low : c.loop-k.k < length (values_in e) = omega (arith, many-values h, i.1.0) in
                let found = o.1 e u v h low y z m n in
                let image : image_named a b r ≡ _ = ap (λ z. cond z b a) o.0.0 ∙ q in
                let value : value_from a b r ≡ _ = ap (λ z. value_named z r) image ∙ found.1 in
                grown-on (Draws a b key d) (those alive (value_from a b r ∷ [])) (c.loop-k.invariant.1 a b key d l e u v q g h y z m n)
                (ap (sift alive _) (picked-yes _ (values_in e) c.loop-k.k no_value (omega (arith, i)) low w.if-stand-k.true)
                ∙ sift-first alive _ _ _ value)
                (λ k p. rw w.out-is (add-one p r (rw image found.0) w.some_marks.ensures w.if-some_marks.true long.1
                w.if-m-lt-VALUES.true)),
          )
      | then-stand-k+then-some_marks+else-m-lt-VALUES w ↦
          let n = ap (λ (k : Sketched). k.len) w.out-is in
          let o = w.source_of-one.ensures in
          let r = w.source_of-one.result in (
            (i.0, (i.1.0, (i.1.1.0, (omega (arith, i), rw w.out-is long)))),
            λ a b key d l e u v q g h y z m n.
                let low : c.loop-k.k < length (values_in e) = omega (arith, many-values h, i.1.0) in
                let found = o.1 e u v h low y z m n in
                let image : image_named a b r ≡ _ = ap (λ z. cond z b a) o.0.0 ∙ q in
                let value : value_from a b r ≡ _ = ap (λ z. value_named z r) image ∙ found.1 in
                grown-on (Draws a b key d) (those alive (value_from a b r ∷ [])) (c.loop-k.invariant.1 a b key d l e u v q g h y z m n)
                (ap (sift alive _) (picked-yes _ (values_in e) c.loop-k.k no_value (omega (arith, i)) low w.if-stand-k.true)
                ∙ sift-first alive _ _ _ value)
                (λ k p. rw w.out-is (add-over p r (rw image found.0) w.some_marks.ensures w.if-some_marks.true
                (omega arith))),
          )
      | then-stand-k+else-some_marks w ↦
          let n = ap (λ (k : Sketched). k.len) w.out-is in
          let o = w.source_of-one.ensures in
          let r = w.source_of-one.result in (
            (i.0, (i.1.0, (i.1.1.0, (omega (arith, i), rw w.out-is long)))),
            λ a b key d l e u v q g h y z m n.
                let low : c.loop-k.k < length (values_in e) = omega (arith, many-values h, i.1.0) in
                let found = o.1 e u v h low y z m n in
                let image : image_named a b r ≡ _ = ap (λ z. cond z b a) o.0.0 ∙ q in
                let value : value_from a b r ≡ _ = ap (λ z. value_named z r) image ∙ found.1 in
                grown-on (Draws a b key d) (those alive (value_from a b r ∷ [])) (c.loop-k.invariant.1 a b key d l e u v q g h y z m n)
                (ap (sift alive _) (picked-yes _ (values_in e) c.loop-k.k no_value (omega (arith, i)) low w.if-stand-k.true)
                ∙ sift-first alive _ _ _ value)
                (λ k p. rw w.out-is (add_none p r (rw image found.0) w.some_marks.ensures w.if-some_marks.false)),
          )
      | else-stand-k w ↦
          let n = ap (λ (k : Sketched). k.len) w.out-is in (
            (i.0, (i.1.0, (i.1.1.0, (omega (arith, i), rw w.out-is long)))),
            λ a b key d l e u v q g h y z m n.
                let low : c.loop-k.k < length (values_in e) = omega (arith, many-values h, i.1.0) in
                rw w.out-is (grown-same (Draws a b key d) (c.loop-k.invariant.1 a b key d l e u v q g h y z m n)
                (ap (sift alive _) (picked-no _ (values_in e) c.loop-k.k no_value (omega (arith, i)) low w.if-stand-k.false))),
          )
    ]

pub returns : goal.returns
unfolding sift
returns c =
    let i = c.loop-k.invariant.0 in (
      omega (arith, i),
      λ a b key d l e u w q g h y z m n.
          grown-end (Draws a b key d) (c.loop-k.invariant.1 a b key d l e u w q g h y z m n)
          (ap (sift alive _) (picked-end _ (values_in e) c.loop-k.k (omega (arith, many-values h, i.1.0)))),
    )
