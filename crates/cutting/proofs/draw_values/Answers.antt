-- `draw_values` meets its contract: one value after the other.
use mathlib.Core.Path.{refl, ap, sym, ◌∙◌}
use mathlib.Core.Bool.{cond}
use Prim.Native.Nat.{◌<◌}
use lib.ListN.{length, length-set}
use native.Mathlib.Omega.{arith}
use borrow.Author.Rules.{rules}
use Rattle.listlaws.proofs.Pads.{unmapped}
use Rattle.clock.specs.Dots.{dots_of}
use Rattle.entries.specs.Model.{values_in}
use Rattle.sketch.specs.declared.Sketched.{Sketched}
use Rattle.sketch.specs.Drawn.{value_from}
use Rattle.sketch.proofs.Adding.{add_none, add-one, add-over}
use Rattle.entrywalk.proofs.Lying.{many-values}
use Rattle.cutting.proofs.Valued.{drawing-start, drawing-no, drawing-yes, drawing-end, source-asks, source-value}
use Rattle.cutting.proofs.draw_values.Goals.{then-stand-k+then-some_marks+then-m-lt-VALUES, then-stand-k+then-some_marks+else-m-lt-VALUES}
use Rattle.cutting.proofs.draw_values.Goals.{then-stand-k+else-some_marks, else-stand-k}
use Rattle.cutting.proofs.draw_values.Goals as goal

pub overflow_sub-n : goal.overflow_sub-n
overflow_sub-n c = c.requires.1.1.0.1.values.order

pub loop-k-init : goal.loop-k-init
loop-k-init c =
    let h = c.requires.1.1.0.1 in
    let f = h.fit.few in (
      (omega (arith, many-values h), (c.requires.0, (omega arith, (search rules, search (rules, unmapped))))),
      λ s t own dots end next x key d l q e m g. drawing-start (dots_of c.args.gone) c.args.stand
          (values_in x) g,
    )

pub source_of-x-requires : goal.source_of-x-requires
source_of-x-requires c =
    let h = c.requires.1.1.0.1 in
    source-asks h c.loop-k.k (omega (arith, many-values h)) (dots_of c.args.gone) c.requires.1.0 c.requires.1.1.1

pub overflow_sub-many : goal.overflow_sub-many
overflow_sub-many c =
    let h = c.requires.1.1.0.1 in
    let a = (source-asks h c.loop-k.k (omega (arith, many-values h)) (dots_of c.args.gone) c.requires.1.0 c.requires.1.1.1).0.1 in
    let b = c.source_of-x.ensures.0.1.1 in
    omega arith

pub some_marks-requires : goal.some_marks-requires
some_marks-requires c =
    let h = c.requires.1.1.0.1 in
    let a = (source-asks h c.loop-k.k (omega (arith, many-values h)) (dots_of c.args.gone) c.requires.1.0 c.requires.1.1.1).0.1 in
    let b = c.source_of-x.ensures.0.1.1 in
    omega arith

pub bounds-out-m : goal.bounds-out-m
bounds-out-m c = let k = c.if-m-lt-VALUES.true in
    omega (arith, c.loop-k.invariant.0.1.1.1.1)

pub loop-k-preserved : goal.loop-k-preserved
loop-k-preserved c =
    let long = c.loop-k.invariant.0.1.1.1 in
    elim c.if-stand-k.branch [
      | then-stand-k+then-some_marks+then-m-lt-VALUES w ↦
          let e = ap (λ (k : Sketched). k.len) w.out-is in
          let o = w.source_of-x in (
            (omega arith, (omega arith, (omega arith, (long.0, rw w.out-is (length-set c.loop-k.out.sources c.loop-k.out.len o.result ∙ long.1))))),
            λ u t own dots end next x key d l q h m g.
                let k : c.loop-k.k < length (values_in x) = omega (arith, many-values h) in
                let f = source-value h c.loop-k.k k u t (dots_of c.args.gone) o.result (q
                ∙ ap (λ b. cond b t u) (sym o.ensures.0.0)) o.ensures.0.1 o.ensures.1 in
                drawing-yes (dots_of c.args.gone) c.args.stand (values_in x) (c.loop-k.invariant.1 u t own dots end next x key d l q h m g)
                (omega arith) k w.if-stand-k.true
                (value_from u t o.result) f.0 _ (λ y r. rw w.out-is (add-one r o.result f.1 w.some_marks.ensures w.if-some_marks.true
                long.1 w.if-m-lt-VALUES.true)),
          )
      | then-stand-k+then-some_marks+else-m-lt-VALUES w ↦
          let e = ap (λ (k : Sketched). k.len) w.out-is in
          let o = w.source_of-x in (
            (omega arith, (omega arith, (omega arith, rw w.out-is long))),
            λ u t own dots end next x key d l q h m g.
                let k : c.loop-k.k < length (values_in x) = omega (arith, many-values h) in
                let f = source-value h c.loop-k.k k u t (dots_of c.args.gone) o.result (q
                ∙ ap (λ b. cond b t u) (sym o.ensures.0.0)) o.ensures.0.1 o.ensures.1 in
                drawing-yes (dots_of c.args.gone) c.args.stand (values_in x) (c.loop-k.invariant.1 u t own dots end next x key d l q h m g)
                (omega arith) k w.if-stand-k.true
                (value_from u t o.result) f.0 _ (λ y r. rw w.out-is (add-over r o.result f.1 w.some_marks.ensures w.if-some_marks.true
                (omega arith))),
          )
      | then-stand-k+else-some_marks w ↦
          let e = ap (λ (k : Sketched). k.len) w.out-is in
          let o = w.source_of-x in (
            (omega arith, (omega arith, (omega arith, rw w.out-is long))),
            λ u t own dots end next x key d l q h m g.
                let k : c.loop-k.k < length (values_in x) = omega (arith, many-values h) in
                let f = source-value h c.loop-k.k k u t (dots_of c.args.gone) o.result (q
                ∙ ap (λ b. cond b t u) (sym o.ensures.0.0)) o.ensures.0.1 o.ensures.1 in
                drawing-yes (dots_of c.args.gone) c.args.stand (values_in x) (c.loop-k.invariant.1 u t own dots end next x key d l q h m g)
                (omega arith) k w.if-stand-k.true
                (value_from u t o.result) f.0 _ (λ y r. rw w.out-is (add_none r o.result f.1 w.some_marks.ensures w.if-some_marks.false)),
          )
      | else-stand-k w ↦
          let e = ap (λ (k : Sketched). k.len) w.out-is in (
            (omega arith, (omega arith, (omega arith, rw w.out-is long))),
            λ u t own dots end next x key d l q h m g.
                rw w.out-is (drawing-no (dots_of c.args.gone) c.args.stand (values_in x)
                (c.loop-k.invariant.1 u t own dots end next x key d l q h m g) (omega arith)
                (omega (arith, many-values h)) w.if-stand-k.false),
          )
    ]

pub returns : goal.returns
returns c =
    let e = c.args.e in (
      omega arith,
      λ u t x key d l q h g.
          drawing-end (dots_of c.args.gone) c.args.stand (values_in x)
          (c.loop-k.invariant.1 u t e.key e.dots e.values.to e.next x key d l q h refl g) (omega (arith, many-values h)),
    )
