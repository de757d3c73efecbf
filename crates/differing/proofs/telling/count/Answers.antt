-- `count` meets its contract: one key after the other, those that differ counted.
use mathlib.Core.Path.{◌≡◌, refl, ap, sym, ◌∙◌}
use mathlib.Core.Bool.{Bool, true, false, ◌||◌}
use mathlib.Core.List.{[], ◌∷◌, ◌++◌}
use Prim.Native.Nat.{◌+◌}
use native.Mathlib.Omega.{arith}
use lib.ListN.{length}
use borrow.Author.Tests.{ltb-false}
use Rattle.listlaws.proofs.Orders.{apart}
use Rattle.listlaws.proofs.Pads.{length-snoc}
use Rattle.differing.specs.Walking.{Comes}
use Rattle.differing.proofs.SoFar.{telling-start, telling-tells, telling-skips, telling-end}
use Rattle.differing.proofs.telling.count.Goals.{After-next-c}
use Rattle.differing.proofs.telling.count.Goals as goal

pub loop-x-init : goal.loop-x-init
loop-x-init c = let p = c.requires in ([], telling-start p.0 p.1, refl)

pub next-c-requires : goal.next-c-requires
next-c-requires c = let d = c.loop-x.invariant.1 in (c.loop-x-test.true, (d.es, d.fs, d.ours, d.theirs))

-- what comes next
came : (c : After-next-c) → let w = c.before.before.before.before in
    let a = w.args in
    Comes a.s.now a.t.now a.l a.m w.loop-x.x w.loop-x.y w.loop-x.invariant.1.es w.loop-x.invariant.1.fs c.next-c.result
came c = let d = c.loop-x.invariant.1 in c.next-c.ensures d.es d.fs d.ours d.theirs

pub overflow_add-n : goal.overflow_add-n
overflow_add-n c = let v = c.loop-x.invariant in omega (arith, v.2, v.1.few)

pub loop-x-smaller-then-told-ne0 : goal.loop-x-smaller-then-told-ne0
loop-x-smaller-then-told-ne0 c = let r = came (goal.at.loop-x-smaller-then-told-ne0 c).After-next-c in
    omega (arith, r.onward, r.outward, r.some, r.ahead.own.order, r.beside.own.order)

pub loop-x-smaller : goal.loop-x-smaller
loop-x-smaller c = let r = came (goal.at.loop-x-smaller c).After-next-c in
    omega (arith, r.onward, r.outward, r.some, r.ahead.own.order, r.beside.own.order)

pub loop-x-preserved-then-told-ne0 : goal.loop-x-preserved-then-told-ne0
loop-x-preserved-then-told-ne0 c =
    let k = c.before.before.before.before.before in
    let v = k.loop-x.invariant in (
      v.0 ++ (k.next-c.result.told ∷ []),
      telling-tells v.1 (came (goal.at.loop-x-preserved-then-told-ne0 c).After-next-c) c.if-told-ne0.true,
      ap (λ z. z + 1) v.2 ∙ sym (length-snoc v.0 _),
    )

pub loop-x-preserved : goal.loop-x-preserved
loop-x-preserved c =
    let k = c.before.before.before.before.before in
    let v = k.loop-x.invariant in
    (v.0, telling-skips v.1 (came (goal.at.loop-x-preserved c).After-next-c) c.if-told-ne0.false, v.2)

-- both are used up
neither : (a b : Bool) → (a || b) ≡ false → (a ≡ false) × (b ≡ false)
neither true b t = apart t
neither false b t = (refl, t)

pub returns : goal.returns
returns c =
    let o = neither _ _ c.loop-x-test.false in
    let v = c.loop-x.invariant in
    (v.2 ∙ ap length (telling-end v.1 (ltb-false _ _ o.0) (ltb-false _ _ o.1)), omega (arith, v.2, v.1.few))
