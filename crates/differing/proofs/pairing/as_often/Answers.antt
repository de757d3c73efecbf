-- `as_often` meets its contract: the loop looks for a value that stands in one entry more often.
use mathlib.Core.Path.{◌≡◌, ap, sym, ◌∙◌}
use mathlib.Core.Bool.{not}
use Prim.Native.Nat.{◌<◌}
use native.Mathlib.Omega.{arith}
use lib.ListN.{length}
use borrow.Author.Tests.{eq-eqb, ne_eqb}
use Rattle.listlaws.proofs.SlicePassing.{passing-start, passing-here, passing-on, passing-end}
use Rattle.register.specs.Values.{no_value}
use Rattle.entries.specs.Model.{values_in}
use Rattle.equality.specs.Equality.{as_often}
use Rattle.entrywalk.proofs.Lying.{many-values}
use Rattle.differing.proofs.pairing.as_often.Goals as goal

pub overflow_sub-i-end : goal.overflow_sub-i-end
overflow_sub-i-end c = omega (arith, c.requires.0.1.values.order)

pub loop-i-init : goal.loop-i-init
loop-i-init c = λ e f h k. passing-start

pub times-here-requires : goal.times-here-requires
times-here-requires c =
    let p = c.requires in
    ((p.0.0, p.0.1, omega (arith, many-values p.0.1)), p.0)

pub times-there-requires : goal.times-there-requires
times-there-requires c =
    let p = c.requires in
    ((p.0.0, p.0.1, omega (arith, many-values p.0.1)), p.1)

pub returns-then-here-there : goal.returns-then-here-there
unfolding as_often
returns-then-here-there c = λ e f h k.
    let n : c.loop-i.i < length (values_in e) = omega (arith, many-values h) in
    let differ : (c.times-here.result ≡ c.times-there.result → ⊥) = c.if-here-there.true in
    passing-here no_value (c.loop-i.invariant e f h k) n
    (ap not (ne_eqb _ _ (λ q. differ (c.times-here.ensures e e h n h ∙ q ∙ sym (c.times-there.ensures e f h n k)))))

pub loop-i-preserved : goal.loop-i-preserved
loop-i-preserved c = λ e f h k.
    let n : c.loop-i.i < length (values_in e) = omega (arith, many-values h) in
    passing-on no_value (c.loop-i.invariant e f h k) n
    (ap not (eq-eqb _ _ (sym (c.times-here.ensures e e h n h) ∙ c.if-here-there.false ∙ c.times-there.ensures e f h n k)))

pub returns : goal.returns
unfolding as_often
returns c = λ e f h k. passing-end (c.loop-i.invariant e f h k) (omega (arith, many-values h))
