-- `times` meets its contract: the loop sifts the other entry's values, and only their number is kept.
use mathlib.Core.Path.{refl, ap, sym, ◌∙◌}
use Prim.Native.Nat.{◌<◌, ◌+◌}
use lib.ListN.{length}
use Rattle.listlaws.proofs.Pads.{length-snoc}
use Rattle.listlaws.proofs.SliceSifting.{sifting-start, sifting-keep, sifting-drop, sifting-end}
use Rattle.register.specs.Values.{no_value}
use Rattle.entries.specs.Model.{values_in}
use Rattle.equality.specs.Equality.{times_in}
use Rattle.entrywalk.proofs.Lying.{many-values}
use native.Mathlib.Omega.{arith}
use Rattle.differing.proofs.pairing.times.Goals.{then-same_at, else-same_at}
use Rattle.differing.proofs.pairing.times.Goals as goal

pub overflow_sub-k-end : goal.overflow_sub-k-end
overflow_sub-k-end c = omega (arith, c.requires.1.1.values.order)

pub loop-k-init : goal.loop-k-init
loop-k-init c = (omega arith, λ e f h k g. sifting-start refl)

pub same_at-requires : goal.same_at-requires
same_at-requires c =
    let p = c.requires in
    (p.0, (p.1.0, p.1.1, omega (arith, many-values p.1.1)))

pub loop-k-preserved : goal.loop-k-preserved
loop-k-preserved c =
    let v = c.loop-k.invariant in
    elim c.if-same_at.branch [
      | then-same_at z ↦ rw z.count-is (
        omega (arith, v.0),
        λ e f h k g.
            let n : c.loop-k.k < length (values_in f) = omega (arith, many-values g) in
            sifting-keep no_value (v.1 e f h k g) n refl (sym (c.same_at.ensures e f h k g n) ∙ z.if-same_at.true)
            (λ l q. ap (λ z. z + 1) q ∙ sym (length-snoc l _)),
      )
      | else-same_at z ↦ rw z.count-is (
        omega (arith, v.0),
        λ e f h k g.
            let n : c.loop-k.k < length (values_in f) = omega (arith, many-values g) in
            sifting-drop no_value (v.1 e f h k g) n refl (sym (c.same_at.ensures e f h k g n) ∙ z.if-same_at.false),
      )
    ]

pub returns : goal.returns
unfolding times_in
returns c = λ e f h k g. sifting-end (c.loop-k.invariant.1 e f h k g) (omega (arith, many-values g))
